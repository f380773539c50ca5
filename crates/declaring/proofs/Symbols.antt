-- The symbols that an operand's parts start with: how many there are, and what the first of them says of all. Assumes nothing.
use Prim.Native.Nat.{ℕ, zero, suc, ◌+◌, ◌-◌, ◌≤◌, ◌<◌}
use native.Mathlib.Omega.{arith}
use mathlib.Core.Path.{◌≡◌, refl, ap, sym, ◌∙◌}
use mathlib.Core.Bool.{Bool, true, false, ◌||◌}
use mathlib.Core.List.{List, [], ◌∷◌, map}
use lib.Dec.{eqb, leb}
use lib.ListN.{length, take, drop, length-append, length-take, length-drop}
use borrow.Author.Tests.{eqb-true, eqb-false, leb-true, leb-false}
use Rattle.text.specs.Bytes.{Bytes, bytes, same}
use Rattle.rules.specs.Choice.{any}
use Rattle.rules.specs.Lexemes.{comma, lexed}
use Rattle.rules.specs.Fields.{starts_with}
use Rattle.rules.specs.Library.{start_symbol, start_symbols}
use Rattle.rules.specs.Faults.{declares_wrongly}
use Rattle.rules.proofs.Choices.{chosen, passed_over, by}
use Rattle.parts.specs.Parts.{bare_at, parts_from, parts_of}
use Rattle.parts.proofs.Divided.{parts-on, parts-done, parts-start, parts_none, divided-cut}
use Rattle.declared.specs.Declared.{start_length, start_name}
use Rattle.declared.proofs.Starts.{start_is, start-inside}
use Rattle.declaring.specs.Declared.{symbols_in, is_wrong}

-- ---- there are fewer symbols than bytes

start-few : (p : Bytes) → length (start_symbol (lexed true p)) ≤ length p
unfolding start_name
start-few p =
    by (eqb (start_length p) 0)
    (λ e. let n = ap length (start_is true p ∙ chosen _ _ e) in omega (arith, n))
    (λ e. let n = ap length (start_is true p ∙ passed_over _ _ e) in omega (arith, n, start-inside p, eqb-false (start_length p) 0 e))

symbols_from : Bytes → ℕ → List Bytes
symbols_from s at = start_symbols (map (lexed true) (parts_from s at))

symbols-done : (s : Bytes) (at : ℕ) → length s < at → symbols_from s at ≡ []
unfolding symbols_from start_symbols
symbols-done s at h = ap (λ (ps : List Bytes). start_symbols (map (lexed true) ps)) (parts-done s at h)

length-on : (s : Bytes) (at end : ℕ) → at ≤ length s → end ≡ at + bare_at comma (drop at s)
    → length (symbols_from s at) ≡ length (start_symbol (lexed true (take (end - at) (drop at s)))) + length (symbols_from s (end + 1))
unfolding symbols_from start_symbols
length-on s at end h e =
    ap (λ (ps : List Bytes). length (start_symbols (map (lexed true) ps))) (parts-on s at end h e)
    ∙ length-append (start_symbol (lexed true (take (end - at) (drop at s)))) (start_symbols (map (lexed true) (parts_from s (end + 1))))

few-from : (s : Bytes) (n at : ℕ) → length s + 1 - at ≤ n → length (symbols_from s at) ≤ length s - at
few-from s zero at h = let e = ap length (symbols-done s at (omega arith)) in omega (arith, e)
few-from s (suc n) at h =
    by (leb at (length s))
    (λ e. let end = at + bare_at comma (drop at s) in
    let all = length-on s at end (leb-true at (length s) e) refl in
    let one = start-few (take (end - at) (drop at s)) in
    omega (arith, leb-true at (length s) e, all, one, length-take (end - at) (drop at s), length-drop at s, few-from s n (end + 1) (omega arith)))
    (λ e. let d = ap length (symbols-done s at (leb-false at (length s) e)) in omega (arith, d))

symbols-are : (s : Bytes) → symbols_in s ≡ start_symbols (map (lexed true) (parts_of s))
unfolding symbols_in
symbols-are s = ap start_symbols (divided-cut s)

pub symbols-few : (s : Bytes) → length (symbols_in s) ≤ length s
unfolding symbols_from start_symbols
symbols-few s =
    by (eqb (length s) 0)
    (λ e. let d = ap length (symbols-are s ∙ ap (λ (ps : List Bytes). start_symbols (map (lexed true) ps)) (parts_none s (omega (arith, eqb-true (length s) 0 e)))) in omega (arith, d))
    (λ e. let d = ap length (symbols-are s ∙ ap (λ (ps : List Bytes). start_symbols (map (lexed true) ps)) (parts-start s (omega (arith, eqb-false (length s) 0 e)))) in
    omega (arith, d, few-from s (length s + 1) 0 (omega arith)))

-- ---- what the first symbol says of all

module _ (before : Bytes → Bool) (n : Bytes) (ns : List Bytes) where
  wrong-first : declares_wrongly before (n ∷ ns) ≡ (is_wrong before ns n || declares_wrongly before ns)
  unfolding declares_wrongly
  wrong-first = go (starts_with (bytes "SYS") n) (before n) (any (same n) ns) (declares_wrongly before ns)
    where
      go : (a b c d : Bool) → (a || (b || (c || d))) ≡ ((a || (b || c)) || d)
      go true b c d = refl
      go false true c d = refl
      go false false c d = refl

  module _ {b : Bool} (t : b ≡ is_wrong before ns n) where
    pub wrong-stop : b ≡ true → declares_wrongly before (n ∷ ns) ≡ true
    wrong-stop f = wrong-first ∙ ap (λ (k : Bool). k || declares_wrongly before ns) (sym t ∙ f)

    pub wrong-next : b ≡ false → declares_wrongly before (n ∷ ns) ≡ declares_wrongly before ns
    wrong-next f = wrong-first ∙ ap (λ (k : Bool). k || declares_wrongly before ns) (sym t ∙ f)
