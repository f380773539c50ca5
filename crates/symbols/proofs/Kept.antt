-- Tables hold a macro's names and the library's globals still, when a name more is declared and written. Assumes nothing.
use Prim.Native.Nat.{ℕ, suc, ◌+◌, ◌≤◌, ◌<◌}
use native.Mathlib.Omega.{arith}
use mathlib.Core.Path.{◌≡◌, refl, ap, sym, ◌∙◌}
use mathlib.Core.Bool.{Bool, true, false}
use mathlib.Core.Option.{none, some}
use mathlib.Core.List.{List, [], ◌∷◌, ◌++◌, map, append_assoc, append-nil, map-append}
use lib.ListN.{length, get_or, take, drop, set, length-append, length-drop}
use lib.Seq.{take-suc-set, take-set-le, drop-set-lt, drop-set-add}
use Rattle.text.specs.Bytes.{Bytes, same}
use Rattle.text.specs.Words.{place_among}
use Rattle.text.proofs.Same.{same-is}
use Rattle.rules.specs.Choice.{choose}
use Rattle.rules.specs.Statement.{Set, set_a}
use Rattle.rules.specs.Grammar.{Kind, parameter, symbol}
use Rattle.rules.specs.Calls.{is_among}
use Rattle.rules.specs.Library.{locals_on, globals_on, declared_in, Names, names_in as names_of, firsts, seconds, parameter_names}
use Rattle.rules.specs.ByLines.{own_names, own_kinds}
use Rattle.rules.specs.Faults.{has_other_kind}
use Rattle.rules.proofs.Symbols.{firsts-append, seconds-append}
use Rattle.rules.proofs.OneKind.{Globals, kind_in, none-is-not, same_kind, in-front, in-part, declared-in-turn, has-this, comes-in, found-kind, in-range}
use Rattle.names.specs.Names.{names_in}
use Rattle.grammar.specs.Kinds.{number_of}
use Rattle.symbols.specs.Held.{Held}
use Rattle.symbols.specs.Declared.{add_locals, add_globals}

-- ---- globals of a macro that the library has with the same kind

-- as `agree` of `Held` says it, and by the kind that a name's first entry gives
abbrev pub Agree : Globals → Globals → Type 0
Agree gs hs = (n : Bytes) → place_among (firsts gs) n < length gs
    → (place_among (firsts hs) n < length hs) × (get_or (seconds hs) (place_among (firsts hs) n) set_a ≡ get_or (seconds gs) (place_among (firsts gs) n) set_a)

abbrev pub Same : Globals → Globals → Type 0
Same gs hs = (n : Bytes) (k : Set) → kind_in gs n ≡ some k → kind_in hs n ≡ some k

pub same-kinds : (gs hs : Globals) → Agree gs hs → Same gs hs
same-kinds gs hs a n k e =
    let l = in-range gs n k e in
    let h = a n l in
    found-kind hs n h.0 ∙ (ap some h.1 ∙ (sym (found-kind gs n l) ∙ e))

pub kinds-agree : (gs hs : Globals) → Same gs hs → Agree gs hs
kinds-agree gs hs s n l =
    let k = get_or (seconds gs) (place_among (firsts gs) n) set_a in
    let e = s n k (found-kind gs n l) in
    let h = in-range hs n k e in
    (h, same_kind (sym (found-kind hs n h) ∙ e))

-- one more, that the library has
same_more : (gs hs : Globals) (n : Bytes) (k : Set) → Same gs hs → kind_in hs n ≡ some k → Same (gs ++ ((n, k) ∷ [])) hs
unfolding choose
same_more gs hs n k s here m j e = in-part gs ((n, k) ∷ []) m j e (s m j) (λ f. one (same n m) refl f)
  where
    one : (b : Bool) → same n m ≡ b → choose b (some k) none ≡ some j → kind_in hs m ≡ some j
    one true q f = ap (kind_in hs) (sym (same-is n m q)) ∙ (here ∙ f)
    one false q f = none-is-not f

-- ---- one more local

module _ (names : Names) (n : Bytes) (k : Set) where
  abbrev declared : List (Bytes × Set)
  declared = (n, k) ∷ []

  own-names : own_names (add_locals names declared) ≡ own_names names ++ (n ∷ [])
  unfolding own_names add_locals parameter_names firsts
  own-names =
      ap (parameter_names names ++◌) (firsts-append names.locals declared) ∙ sym (append_assoc (parameter_names names) (firsts names.locals) (n ∷ []))

  own-kinds : own_kinds (add_locals names declared) ≡ own_kinds names ++ (symbol k ∷ [])
  unfolding own_kinds add_locals parameter_names seconds
  own-kinds =
      let ps = map {B = Kind} (λ p. parameter) (parameter_names names) in
      ap (λ (s : List Set). ps ++ map symbol s) (seconds-append names.locals declared)
      ∙ (ap (ps ++◌) (map-append symbol (seconds names.locals) (k ∷ [])) ∙ sym (append_assoc ps (map symbol (seconds names.locals)) (symbol k ∷ [])))

  own-count : length (own_names (add_locals names declared)) ≡ suc (length (own_names names))
  own-count = omega (arith, ap length own-names, length-append (own_names names) (n ∷ []))

module _ (names : Names) (globals : List (Bytes × Set)) (own global shared kinds : Bytes) (h : Held names globals own global shared kinds) (n : Bytes) (k : Set) where
  pub local-held : (own' kinds' : Bytes) → names_in own' ≡ names_in own ++ (n ∷ []) → kinds' ≡ set kinds (length (own_names names)) (number_of (symbol k))
      → length (own_names names) < 64 → 64 ≤ length kinds → Held (add_locals names ((n, k) ∷ [])) globals own' global shared kinds'
  unfolding add_locals
  local-held own' kinds' o e room long =
      let p = length (own_names names) in
      let v = number_of (symbol k) in
      let kinds-are : take (suc p) (set kinds p v) ≡ map number_of (own_kinds names ++ (symbol k ∷ [])) =
      take-suc-set kinds p v (omega arith) ∙ (ap (◌++ (v ∷ [])) h.my-kinds ∙ sym (map-append number_of (own_kinds names) (symbol k ∷ []))) in
      record {
        mine = o ∙ (ap (◌++ (n ∷ [])) h.mine ∙ sym (own-names names n k));
        theirs = h.theirs;
        ours = h.ours;
        my-kinds = ap (take (length (own_names (add_locals names ((n, k) ∷ []))))) e ∙ (ap (λ (c : ℕ). take c (set kinds p v)) (own-count names n k) ∙ (kinds-are ∙ sym (ap (map number_of) (own-kinds names n k))));
        our-kinds = ap (λ (s : Bytes). take (length globals) (drop 64 s)) e ∙ (ap (take (length globals)) (drop-set-lt 64 kinds p v room) ∙ h.our-kinds);
        few = omega (arith, room, own-count names n k);
        fewer = h.fewer;
        agree = h.agree;
      }

  -- ---- one more global of the macro

  -- that the library has already
  pub global-held : (global' : Bytes) → names_in global' ≡ names_in global ++ (n ∷ []) → is_among n globals ≡ true → has_other_kind k globals n ≡ false
      → Held (add_globals names ((n, k) ∷ [])) globals own global' shared kinds
  unfolding add_globals own_names own_kinds parameter_names firsts
  global-held global' g a o =
      let gs = names.globals in
      record {
        mine = h.mine;
        theirs = g ∙ (ap (◌++ (n ∷ [])) h.theirs ∙ sym (firsts-append gs ((n, k) ∷ [])));
        ours = h.ours;
        my-kinds = h.my-kinds;
        our-kinds = h.our-kinds;
        few = h.few;
        fewer = h.fewer;
        agree = kinds-agree (gs ++ ((n, k) ∷ [])) globals (same_more gs globals n k (same-kinds gs globals h.agree) (has-this k globals n a o));
      }

  -- that the library has not yet
  pub new-global-held : (global' shared' kinds' : Bytes) → names_in global' ≡ names_in global ++ (n ∷ []) → names_in shared' ≡ names_in shared ++ (n ∷ [])
      → kinds' ≡ set kinds (64 + length globals) (number_of (symbol k)) → is_among n globals ≡ false → length globals < 32 → 96 ≤ length kinds
      → Held (add_globals names ((n, k) ∷ [])) (globals ++ ((n, k) ∷ [])) own global' shared' kinds'
  unfolding add_globals own_names own_kinds parameter_names firsts
  new-global-held global' shared' kinds' g s e a room long =
      let gs = names.globals in
      let more : List (Bytes × Set) = (n, k) ∷ [] in
      let v = number_of (symbol k) in
      let c : length (globals ++ more) ≡ suc (length globals) = omega (arith, length-append globals more) in
      let here : length globals < length (drop 64 kinds) = omega (arith, length-drop 64 kinds) in
      record {
        mine = h.mine;
        theirs = g ∙ (ap (◌++ (n ∷ [])) h.theirs ∙ sym (firsts-append gs more));
        ours = s ∙ (ap (◌++ (n ∷ [])) h.ours ∙ sym (firsts-append globals more));
        my-kinds = ap (take (length (own_names names))) e ∙ (take-set-le (length (own_names names)) kinds (64 + length globals) v (omega (arith, h.few)) ∙ h.my-kinds);
        our-kinds =
            ap (λ (t : Bytes). take (length (globals ++ more)) (drop 64 t)) e
            ∙ (ap (take (length (globals ++ more))) (drop-set-add 64 kinds (length globals) v)
            ∙ (ap (λ (m : ℕ). take m (set (drop 64 kinds) (length globals) v)) c
            ∙ (take-suc-set (drop 64 kinds) (length globals) v here
            ∙ (ap (◌++ (v ∷ [])) h.our-kinds ∙ sym (map-append (λ x. number_of (symbol x.1)) globals more)))));
        few = h.few;
        fewer = omega (arith, room, c);
        agree =
            kinds-agree (gs ++ more) (globals ++ more)
            (same_more gs (globals ++ more) n k (λ m j q. in-front globals more m j (same-kinds gs globals h.agree m j q)) (comes-in k globals n a));
      }

-- ---- a line's names, one after another

pub locals-in-turn : (names : Names) (s t : List (Bytes × Set)) → add_locals (add_locals names s) t ≡ add_locals names (s ++ t)
unfolding add_locals
locals-in-turn names s t = λ i. record {
  name = names.name;
  positionals = names.positionals;
  keywords = names.keywords;
  locals = append_assoc names.locals s t i;
  globals = names.globals;
}

pub globals-in-turn : (names : Names) (s t : List (Bytes × Set)) → add_globals (add_globals names s) t ≡ add_globals names (s ++ t)
unfolding add_globals
globals-in-turn names s t = λ i. record {
  name = names.name;
  positionals = names.positionals;
  keywords = names.keywords;
  locals = names.locals;
  globals = append_assoc names.globals s t i;
}

pub no-locals : (names : Names) → add_locals names [] ≡ names
unfolding add_locals
no-locals names = λ i. record {
  name = names.name;
  positionals = names.positionals;
  keywords = names.keywords;
  locals = append-nil names.locals i;
  globals = names.globals;
}

pub no-globals : (names : Names) → add_globals names [] ≡ names
unfolding add_globals
no-globals names = λ i. record {
  name = names.name;
  positionals = names.positionals;
  keywords = names.keywords;
  locals = names.locals;
  globals = append-nil names.globals i;
}

-- the names of a body with a line more
pub line-more : (prototype : Bytes) (before : List Bytes) (l : Bytes)
    → names_of prototype (before ++ (l ∷ [])) ≡ add_globals (add_locals (names_of prototype before) (locals_on l)) (globals_on l)
unfolding add_locals add_globals names_of declared_in
line-more prototype before l = λ i. record {
  name = (names_of prototype before).name;
  positionals = (names_of prototype before).positionals;
  keywords = (names_of prototype before).keywords;
  locals = on locals_on i;
  globals = on globals_on i;
}
  where
    on : (f : Bytes → List (Bytes × Set)) → declared_in f (before ++ (l ∷ [])) ≡ declared_in f before ++ f l
    on f = declared-in-turn f before (l ∷ []) ∙ ap (declared_in f before ++◌) (append-nil (f l))
