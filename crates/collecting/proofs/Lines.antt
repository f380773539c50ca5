-- Tables when a line's symbols were put into them: a line that declares nothing, its locals, its globals. Assumes nothing.
use Prim.Native.Nat.{ℕ, ◌+◌, ◌*◌, ◌-◌, ◌≤◌}
use native.Mathlib.Omega.{arith}
use mathlib.Core.Path.{◌≡◌, refl, ap, sym, ◌∙◌, subst}
use mathlib.Core.Bool.{false, true}
use mathlib.Core.List.{List, [], ◌∷◌, ◌++◌}
use lib.ListN.{length, take, drop, replicate, length-append}
use Rattle.text.specs.Bytes.{Bytes}
use Rattle.text.specs.Words.{words, word_number}
use Rattle.rules.specs.Choice.{any}
use Rattle.rules.specs.Lexemes.{is_long}
use Rattle.rules.specs.Fields.{is_remark, Fields, no_fields, fields_of, statement_fields}
use Rattle.rules.specs.Statement.{Set, Statement, local, global, statements, statement_of}
use Rattle.rules.specs.Grammar.{symbol}
use Rattle.rules.specs.Library.{operation_of, of_kind, operand_parts, locals_by, globals_by, locals_on, globals_on, Names, firsts, parameter_names, with_globals, names_in as names_of}
use Rattle.rules.specs.ByLines.{own_names}
use Rattle.rules.proofs.Choices.{chosen, passed_over}
use Rattle.rules.proofs.Symbols.{length-firsts}
use Rattle.rules.specs.Faults.{declares_wrongly}
use Rattle.deck.specs.Coders.{set_code}
use Rattle.lent.specs.Splice.{splice}
use Rattle.names.specs.Names.{names_in}
use Rattle.grammar.specs.Kinds.{number_of}
use Rattle.fields.specs.declared.Cuts.{Cuts as Marks}
use Rattle.fields.specs.Cuts.{cuts_of, fields_by}
use Rattle.fields.proofs.Cut.{fields-cut}
use Rattle.symbols.specs.Held.{Held}
use Rattle.symbols.specs.Declared.{add_locals, add_globals}
use Rattle.symbols.proofs.Kept.{no-locals, no-globals, line-more}
use Rattle.declaring.specs.Declared.{symbols_in}
use Rattle.filling.specs.Added.{Adds}
use Rattle.filling.proofs.Lines.{locals-held, globals-held}
use Rattle.collecting.specs.declared.Rows.{Rows as Counts}
use Rattle.collecting.specs.Collected.{Declared, Declares}

-- ---- the names of one kind, back

pub names-back : (k : Set) (ns : List Bytes) → firsts (of_kind k ns) ≡ ns
unfolding firsts of_kind
names-back k [] = refl
names-back k (n ∷ ns) = ap (n ∷◌) (names-back k ns)

kind-length : (k : Set) (ns : List Bytes) → length (of_kind k ns) ≡ length ns
kind-length k ns = sym (length-firsts (of_kind k ns)) ∙ ap length (names-back k ns)

-- ---- the same names, told otherwise

module _ {r : Counts} {own₁ global₁ shared₁ kinds₁ : Bytes} where
  pub declared-as : {names names₁ : Names} {globals globals₁ : List (Bytes × Set)} → names ≡ names₁ → globals ≡ globals₁
      → Declared names globals r own₁ global₁ shared₁ kinds₁ → Declared names₁ globals₁ r own₁ global₁ shared₁ kinds₁
  declared-as {names₁ = names₁} {globals = globals} e f d =
      subst (λ (g : List (Bytes × Set)). Declared names₁ g r own₁ global₁ shared₁ kinds₁) f
      (subst (λ (n : Names). Declared n globals r own₁ global₁ shared₁ kinds₁) e d)

-- ---- the three kinds of lines

module _ (l : Bytes) (rows : Counts) (own global' shared kinds : Bytes) where
  -- tables and rows stay
  pub declares-nothing : locals_on l ≡ [] → globals_on l ≡ [] → Declares l rows own global' shared kinds rows own global' shared kinds
  unfolding with_globals
  declares-nothing p q names globals h a b c _ _ _ =
      declared-as (sym ((λ i. add_globals (add_locals names (p i)) (q i)) ∙ (no-globals (add_locals names []) ∙ no-locals names))) (sym (ap (with_globals globals) q))
      (record { held = h; own = a; global = b; shared = c })

  module _ (k : Set) (ns : List Bytes) where
    pub declares-locals : locals_on l ≡ of_kind k ns → globals_on l ≡ [] → rows.own + length (locals_on l) ≤ 64 → 192 ≤ length kinds
        → (r : ℕ) (own₁ kinds₁ : Bytes) → r ≡ rows.own + length ns → names_in (take (r * 8) own₁) ≡ names_in (take (rows.own * 8) own) ++ ns
        → kinds₁ ≡ splice kinds rows.own (replicate (length ns) (number_of (symbol k)))
        → Declares l rows own global' shared kinds (record { own = r; global = rows.global; shared = rows.shared }) own₁ global' shared kinds₁
    unfolding with_globals add_locals
    declares-locals p q room size r own₁ kinds₁ e n w names globals h a b c _ _ _ =
        let count : length (locals_on l) ≡ length ns = ap length p ∙ kind-length k ns in
        let held = locals-held h k ns (take (r * 8) own₁) kinds₁ n
        (w ∙ ap (λ (m : ℕ). splice kinds m (replicate (length ns) (number_of (symbol k)))) (sym a)) (omega (arith, a, room, count)) (omega (arith, size)) in
        let mine : length (own_names (add_locals names (of_kind k ns))) ≡ r =
        omega (arith, ap length held.mine, ap length n, ap length h.mine, length-append (names_in (take (rows.own * 8) own)) ns, a, e) in
        declared-as (sym ((λ i. add_globals (add_locals names (p i)) (q i)) ∙ no-globals (add_locals names (of_kind k ns)))) (sym (ap (with_globals globals) q))
        (record { held = held; own = mine; global = b; shared = c })

    pub declares-globals : locals_on l ≡ [] → globals_on l ≡ of_kind k ns → statement_of (operation_of l) ≡ global k → (set : ℕ) → set ≡ set_code k
        → (r : Counts) (global₁ shared₁ kinds₁ : Bytes) → r.own ≡ rows.own → r.global ≡ rows.global + length ns
        → names_in (take (r.global * 8) global₁) ≡ names_in (take (rows.global * 8) global') ++ ns → Adds set shared kinds rows.shared ns shared₁ kinds₁ r.shared
        → Declares l rows own global' shared kinds r own global₁ shared₁ kinds₁
    unfolding add_globals own_names parameter_names
    declares-globals p q s set code r global₁ shared₁ kinds₁ o g n adds names globals h a b c few other wrong =
        let new : with_globals globals (globals_on l) ≡ with_globals globals (of_kind k ns) = ap (with_globals globals) q in
        let back : firsts (globals_on l) ≡ ns = ap firsts q ∙ names-back k ns in
        let x = adds k globals code h.ours h.our-kinds c in
        let held = globals-held h k ns (take (r.global * 8) global₁) (take (r.shared * 8) shared₁) kinds₁ n x.listed
        (ap (λ (m : ℕ). take m (drop 64 kinds₁)) (sym x.counted) ∙ x.numbered) x.kept (omega (arith, few, ap length new))
        (ap (any _) (sym back) ∙ other k s) (ap (declares_wrongly _) (sym back) ∙ wrong) in
        declared-as (sym ((λ i. add_globals (add_locals names (p i)) (q i)) ∙ ap (λ (m : Names). add_globals m (of_kind k ns)) (no-locals names))) (sym new)
        (record {
          held = subst (λ (m : ℕ). Held (add_globals names (of_kind k ns)) (with_globals globals (of_kind k ns)) (take (m * 8) own) (take (r.global * 8) global₁) (take (r.shared * 8) shared₁) kinds₁) (sym o) held;
          own = a ∙ sym o;
          global = omega (arith, length-append names.globals (of_kind k ns), kind-length k ns, b, g);
          shared = sym x.counted;
        })

-- ---- a line by its places

-- a statement declares nothing
abbrev pub Neither : Fields → Statement → Type 0
Neither f st = (locals_by f st ≡ []) × (globals_by f st ≡ [])

no_word : Neither no_fields (statement_of [])
unfolding statement_of statements word_number words locals_by globals_by
no_word = (refl, refl)

pub remark-locals : (l : Bytes) → is_remark l ≡ true → (locals_on l ≡ []) × (globals_on l ≡ [])
unfolding locals_on globals_on statement_fields no_fields
remark-locals l e =
    let f = chosen no_fields (fields_of l) e in
    (ap (λ (x : Fields). locals_by x (statement_of x.operation)) f ∙ no_word.0, ap (λ (x : Fields). globals_by x (statement_of x.operation)) f ∙ no_word.1)

module _ (l : Bytes) (c : Marks) (e : is_remark l ≡ false) (f : c ≡ cuts_of l) (st : Statement) (w : st ≡ statement_of (take (c.space - c.operation) (drop c.operation l))) where
  abbrev operand : Bytes
  operand = take (c.remarks - c.operand) (drop c.operand l)

  fields-are : statement_fields l ≡ fields_by l c
  unfolding statement_fields
  fields-are = passed_over no_fields (fields_of l) e ∙ (fields-cut l ∙ ap (fields_by l) (sym f))

  statement-is : statement_of (operation_of l) ≡ st
  unfolding operation_of fields_by
  statement-is = ap (λ (x : Fields). statement_of x.operation) fields-are ∙ sym w

  locals_are : locals_on l ≡ locals_by (fields_by l c) st
  unfolding locals_on fields_by
  locals_are = ap (λ (x : Fields). locals_by x (statement_of x.operation)) fields-are ∙ ap (locals_by (fields_by l c)) (sym w)

  globals-are : globals_on l ≡ globals_by (fields_by l c) st
  unfolding globals_on fields_by
  globals-are = ap (λ (x : Fields). globals_by x (statement_of x.operation)) fields-are ∙ ap (globals_by (fields_by l c)) (sym w)

  pub no-line : Neither (fields_by l c) st → (locals_on l ≡ []) × (globals_on l ≡ [])
  no-line n = (locals_are ∙ n.0, globals-are ∙ n.1)

  pub local-line : (k : Set) → st ≡ local k → (locals_on l ≡ of_kind k (symbols_in (take (c.remarks - c.operand) (drop c.operand l)))) × (globals_on l ≡ [])
  unfolding locals_by globals_by operand_parts symbols_in fields_by
  local-line k h = (locals_are ∙ ap (locals_by (fields_by l c)) h, globals-are ∙ ap (globals_by (fields_by l c)) h)

  pub global-line : (k : Set) → st ≡ global k
      → (locals_on l ≡ []) × ((globals_on l ≡ of_kind k (symbols_in (take (c.remarks - c.operand) (drop c.operand l)))) × (statement_of (operation_of l) ≡ global k))
  unfolding locals_by globals_by operand_parts symbols_in fields_by
  global-line k h = (locals_are ∙ ap (locals_by (fields_by l c)) h, (globals-are ∙ ap (globals_by (fields_by l c)) h, statement-is ∙ h))

-- ---- symbols that are not too long

pub kind-short : (k : Set) (ns : List Bytes) {gs : List (Bytes × Set)} → gs ≡ of_kind k ns → any is_long (firsts gs) ≡ false → any is_long ns ≡ false
kind-short k ns e h = ap (any is_long) (sym (ap firsts e ∙ names-back k ns)) ∙ h

-- how many
pub kind-count : (k : Set) (ns : List Bytes) {gs : List (Bytes × Set)} → gs ≡ of_kind k ns → length gs ≡ length ns
kind-count k ns e = ap length e ∙ kind-length k ns

-- ---- the names of a body with a line more

pub declared-line : (p : Bytes) (before : List Bytes) (l : Bytes) (globals : List (Bytes × Set)) (r : Counts) (own global₁ shared kinds : Bytes)
    → Declared (add_globals (add_locals (names_of p before) (locals_on l)) (globals_on l)) (with_globals globals (globals_on l)) r own global₁ shared kinds
    → Declared (names_of p (before ++ (l ∷ []))) (with_globals globals (globals_on l)) r own global₁ shared kinds
declared-line p before l globals r own global₁ shared kinds d = declared-as (sym (line-more p before l)) refl d
