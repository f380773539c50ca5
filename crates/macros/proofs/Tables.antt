-- Tables when a macro has declared its names: they hold them and the library's globals as before, and the macro's bytes are those that they give. Assumes nothing.
use Prim.Native.Nat.{ℕ, ◌+◌, ◌*◌, ◌-◌, ◌≤◌, ◌<◌}
use native.Mathlib.Nat.{not-suc-le-zero}
use native.Mathlib.Omega.{arith}
use mathlib.Core.Path.{◌≡◌, refl, ap, sym, ◌∙◌, subst}
use mathlib.Core.Bool.{false}
use mathlib.Core.List.{List, [], ◌++◌, map, map-append}
use lib.ListN.{length, take, drop, length-append, length-map, length-take}
use lib.Seq.{take-add, drop_at, length-take-le}
use Rattle.text.specs.Bytes.{Bytes}
use Rattle.rules.specs.Choice.{any}
use Rattle.rules.specs.Fields.{lines_of, is_ill_written}
use Rattle.rules.specs.Statement.{Set}
use Rattle.rules.specs.Grammar.{parameter, symbol}
use Rattle.rules.specs.Library.{Macro, declared_in, Names, names_in as names_of, firsts, seconds, parameter_names}
use Rattle.rules.specs.ByLines.{own_names, own_kinds, no_reading, reading}
use Rattle.rules.proofs.OneKind.{Globals}
use Rattle.rules.proofs.Symbols.{length-firsts}
use Rattle.deck.proofs.Lists.{map-map}
use Rattle.deck.specs.Coding.{list_of}
use Rattle.deck.specs.Coders.{kind}
use Rattle.lent.specs.Splice.{splice}
use Rattle.names.specs.Names.{rows_by, names_in}
use Rattle.grammar.specs.Kinds.{number_of}
use Rattle.symbols.specs.Held.{Held}
use Rattle.declaring.proofs.Holding.{globals-held}
use Rattle.collecting.specs.declared.Rows.{Rows as Counts}
use Rattle.collecting.specs.Collected.{Sizes, Declared, Starts}
use Rattle.collecting.specs.Bodies.{RoomFor, DeclaresBehind}
use Rattle.headers.specs.Headers.{header_of}
use Rattle.headers.proofs.Headers.{macro-parts}
use Rattle.bodies.proofs.Coded.{body-in, body-good}
use Rattle.decks.specs.Decks.{macro_put}
use Rattle.macros.specs.Macros.{Member, Holds, globals_at, parts_put, tables_put, Tabled}
use Rattle.macros.proofs.Members.{few-all, few-parameters, body-fits, few-declared, body-agrees, brings-none, prototype-short, no-remark, body-written, few-lines, known}

-- tables that hold globals tell which
pub told : {gs : Globals} {rows : ℕ} {shared kinds : Bytes} → length gs ≤ 32 → Holds gs rows shared kinds → globals_at rows shared kinds ≡ gs
unfolding names_in rows_by own_names own_kinds parameter_names no_reading firsts seconds
told {gs = gs} {rows = rows} {shared = shared} {kinds = kinds} few h =
    let held : Held no_reading.names gs [] [] (take (rows * 8) shared) kinds = record {
      mine = refl;
      theirs = refl;
      ours = h.listed;
      my-kinds = refl;
      our-kinds = ap (λ (n : ℕ). take n (drop 64 kinds)) h.counted ∙ h.numbered;
      few = omega arith;
      fewer = few;
      agree = λ n lt. absurd (not-suc-le-zero lt);
    } in
    globals-held held

-- what the rows of a macro's names start with
abbrev pub first : ℕ → ℕ → Counts
first parameters rows = record { own = parameters; global = 0; shared = rows }

module _ {gs : Globals} {m : Macro} (h : Member gs m) {rows : ℕ} {shared kinds : Bytes} (t : Holds gs rows shared kinds) where
  abbrev names : Names
  names = names_of m.prototype m.body

  -- ---- declaring

  module _ (own₁ kinds₁ : Bytes) (r : ℕ) (n : r ≡ length (own_names (names_of m.prototype []))) where
    pub started : (global : Bytes) → Starts m.prototype kinds r own₁ kinds₁ → Declared (names_of m.prototype []) gs (first r rows) own₁ global shared kinds₁
    unfolding names_of declared_in
    started global s =
        let z : 0 * 8 ≡ 0 = omega arith in
        record {
          held = subst (λ (g : Bytes). Held (names_of m.prototype []) gs (take (r * 8) own₁) g (take (rows * 8) shared) kinds₁) (sym (ap (λ (k : ℕ). take k global) z))
              (s gs (take (rows * 8) shared) t.listed (ap (λ (k : ℕ). take k (drop 64 kinds)) t.counted ∙ t.numbered) (omega (arith, few-all h)));
          own = sym n;
          global = refl;
          shared = t.counted;
        }

    pub body-room : (global : Bytes) → Sizes own₁ global shared kinds₁ → RoomFor m.body (first r rows) own₁ global shared kinds₁
    body-room global s = record { sizes = s; fits = body-fits h (first r rows) (omega (arith, n, few-parameters h)) refl (sym t.counted) }

  module _ (r rows₀ : Counts) (own global shared₀ kinds₀ own₁ global₁ shared₁ kinds₁ : Bytes) where
    pub collected : Declared (names_of m.prototype []) gs rows₀ own global shared₀ kinds₀
        → DeclaresBehind [] m.body rows₀ own global shared₀ kinds₀ r own₁ global₁ shared₁ kinds₁ → Declared names gs r own₁ global₁ shared₁ kinds₁
    collected d b =
        subst (λ (g : Globals). Declared names g r own₁ global₁ shared₁ kinds₁) (brings-none h) (b m.prototype gs d (body-agrees h))

  -- ---- when all is declared

  module _ {r : Counts} {own₁ global₁ shared₁ kinds₁ : Bytes} (d : Declared names gs r own₁ global₁ shared₁ kinds₁) where
    pub holds-still : Holds gs rows shared₁ kinds₁
    holds-still = record {
      counted = t.counted;
      listed = subst (λ (n : ℕ). names_in (take (n * 8) shared₁) ≡ firsts gs) (sym d.shared ∙ t.counted) d.held.ours;
      numbered = ap (λ (n : ℕ). take n (drop 64 kinds₁)) (sym t.counted) ∙ d.held.our-kinds;
    }

    pub few-own : r.own ≤ 64
    few-own = omega (arith, d.own, d.held.few)

    pub few-global : r.global ≤ 16
    unfolding names_of
    few-global = omega (arith, d.global, few-declared h)

    pub few-shared : r.shared ≤ 16
    few-shared = omega (arith, d.shared, few-all h)

    module _ (parameters : ℕ) (n : parameters ≡ length (own_names (names_of m.prototype []))) where
      of-parameters : parameters ≡ length (parameter_names names)
      unfolding own_names names_of parameter_names declared_in firsts
      of-parameters = omega (arith, n, length-append (parameter_names names) [])

      own-count : r.own ≡ parameters + length names.locals
      unfolding own_names
      own-count = omega (arith, d.own, of-parameters, length-append (parameter_names names) (firsts names.locals), length-firsts names.locals)

      pub parameters-first : parameters ≤ r.own
      parameters-first = omega (arith, own-count)

      -- the kinds behind those of the parameters are those of the locals
      pub local-kinds : take (r.own - parameters) (drop parameters kinds₁) ≡ map (λ k. number_of (symbol k)) (seconds names.locals)
      unfolding own_kinds
      local-kinds =
          let a = parameters in
          let b = r.own - parameters in
          let q : r.own ≡ a + b = omega (arith, parameters-first) in
          let ps = map number_of (map (λ (p : Bytes). parameter) (parameter_names names)) in
          let ks = map number_of (map symbol (seconds names.locals)) in
          let l : length ps ≡ a = omega (
            arith,
            of-parameters,
            length-map (map (λ (p : Bytes). parameter) (parameter_names names)) number_of,
            length-map (parameter_names names) (λ (p : Bytes). parameter),
          ) in
          let whole : take (a + b) kinds₁ ≡ ps ++ ks =
          ap (λ (k : ℕ). take k kinds₁) (sym q ∙ sym d.own)
          ∙ (d.held.my-kinds ∙ map-append number_of (map (λ (p : Bytes). parameter) (parameter_names names)) (map symbol (seconds names.locals))) in
          let within : a ≤ length kinds₁ = omega (arith, l, ap length whole, length-take (a + b) kinds₁, length-append ps ks) in
          sym (drop_at (take a kinds₁) (take b (drop a kinds₁)) a (length-take-le a kinds₁ within))
          ∙ (ap (drop a) (sym (take-add a b kinds₁) ∙ whole) ∙ (drop_at ps ks a l ∙ map-map symbol number_of (λ k. refl) (seconds names.locals)))

    -- the macro's bytes are those that the tables give
    pub parts_are : (body : Bytes) → m.body ≡ lines_of body → macro_put gs m ≡ tables_put m.prototype (seconds names.locals) r own₁ global₁ shared₁ body
    unfolding macro_put parts_put reading
    parts_are body b =
        macro-parts gs (reading m) m.prototype refl refl
        ∙ ap (λ (s : Bytes). header_of m.prototype ++ ((list_of kind).put (seconds names.locals) ++ s))
        (sym (body-in (reading m) gs (take (r.own * 8) own₁) (take (r.global * 8) global₁) (take (r.shared * 8) shared₁)
        d.held.mine d.held.theirs d.held.ours d.held.few d.held.fewer body b (body-good (known h).is-sound)))

    pub tabled : (body : Bytes) → m.body ≡ lines_of body → (parameters : ℕ) → parameters ≡ length (own_names (names_of m.prototype [])) → Sizes own₁ global₁ shared₁ kinds₁
        → (code out : Bytes) (at : ℕ) → 71 ≤ length code → at + length (macro_put gs m) ≤ length out → Tabled m.prototype body parameters r own₁ global₁ shared₁ kinds₁ code out at
    tabled body b parameters n z code out at w room =
        let first = parameters-first parameters n in
        let ks = local-kinds parameters n in
        record {
          sizes = z;
          order = first;
          few-own = few-own;
          few-global = omega (arith, few-global);
          few-shared = omega (arith, few-shared);
          parts = record {
            short = prototype-short h;
            no-remark = no-remark h;
            lines = record { written = subst (λ (ls : List Bytes). any is_ill_written ls ≡ false) b (body-written h); fits = w; lines-count = subst (λ (ls : List Bytes). length ls < 65536) b (few-lines h) };
            locals = seconds names.locals;
            locals_are = ks;
            few = omega (arith, length-take (r.own - parameters) (drop parameters kinds₁), few-own);
            room = subst (λ (s : Bytes). at + length s ≤ length out) (parts_are body b) room;
          };
        }

    -- what writing by the tables answers and writes is what writing the macro does
    pub macro-done : (body : Bytes) → m.body ≡ lines_of body → (parameters : ℕ) → parameters ≡ length (own_names (names_of m.prototype []))
        → (out new : Bytes) (at to : ℕ)
        → ((ks : List Set) → take (r.own - parameters) (drop parameters kinds₁) ≡ map (λ k. number_of (symbol k)) ks
        → (to ≡ at + length (tables_put m.prototype ks r own₁ global₁ shared₁ body)) × (new ≡ splice out at (tables_put m.prototype ks r own₁ global₁ shared₁ body)))
        → (to ≡ at + length (macro_put gs m)) × ((new ≡ splice out at (macro_put gs m)) × Holds gs rows shared₁ kinds₁)
    macro-done body b parameters n out new at to put =
        let w = put (seconds names.locals) (local-kinds parameters n) in
        let q = sym (parts_are body b) in
        (w.0 ∙ ap (λ (s : Bytes). at + length s) q, (w.1 ∙ ap (splice out at) q, holds-still))
