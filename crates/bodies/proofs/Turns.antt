-- The lines of a body written one behind another: what one more line adds, and where they end. Assumes nothing.
use Prim.Native.Nat.{ℕ, ◌+◌, ◌≤◌, ◌<◌}
use native.Mathlib.Omega.{arith}
use mathlib.Core.Path.{◌≡◌, refl, ap, sym, ◌∙◌}
use mathlib.Core.Bool.{false, ◌||◌}
use mathlib.Core.List.{List, [], ◌∷◌, ◌++◌}
use lib.ListN.{length, length-append}
use Rattle.text.specs.Bytes.{Bytes}
use Rattle.rules.specs.Choice.{any}
use Rattle.rules.specs.Limits.{line_limit}
use Rattle.rules.specs.Fields.{lines_of, is_ill_written}
use Rattle.rules.proofs.Logic.{or_left, or_right}
use Rattle.rules.proofs.ReadLines.{written_in}
use Rattle.deck.specs.Coding.{two}
use Rattle.lent.specs.Splice.{splice}
use Rattle.lent.proofs.Writes.{splice-append}
use Rattle.writing.proofs.Writes.{both-written, two-length}
use Rattle.bodies.specs.Lines.{line_in, lines_in, body_in}
use Rattle.bodies.specs.Room.{Ready}

module _ (own global shared body : Bytes) where
  abbrev rest : List Bytes → Bytes
  rest ls = lines_in own global shared body ls

  -- no line is left
  module _ (left : List Bytes) (e : left ≡ []) where
    none : rest left ≡ []
    unfolding lines_in
    none = ap rest e

    pub all_end : (to n : ℕ) → to + length (rest left) ≡ n → to ≡ n
    all_end to n q = let z = ap length none in omega (arith, q, z)

    pub all-splice : (out all : Bytes) (to : ℕ) → splice out to (rest left) ≡ all → out ≡ all
    unfolding splice
    all-splice out all to q = sym (ap (splice out to) none) ∙ q

  -- the line l is the first that is left, and ls are the others
  module _ (left : List Bytes) (l : Bytes) (ls : List Bytes) (e : left ≡ l ∷ ls) where
    turned : rest left ≡ line_in own global shared body l ++ rest ls
    unfolding lines_in
    turned = ap rest e

    size : length (rest left) ≡ length (line_in own global shared body l) + length (rest ls)
    size = ap length turned ∙ length-append (line_in own global shared body l) (rest ls)

    pub line-room : (to n m : ℕ) → to + length (rest left) ≡ n → n ≤ m → to + length (line_in own global shared body l) ≤ m
    line-room to n m q room = let z = size in omega (arith, q, z)

    pub turn-size : (to to₂ n : ℕ) → to₂ ≡ to + length (line_in own global shared body l) → to + length (rest left) ≡ n → to₂ + length (rest ls) ≡ n
    turn-size to to₂ n f q = let z = size in omega (arith, q, z, f)

    pub turn-splice : (out new all : Bytes) (to to₂ : ℕ) → to₂ ≡ to + length (line_in own global shared body l) → new ≡ splice out to (line_in own global shared body l)
        → splice out to (rest left) ≡ all → splice new to₂ (rest ls) ≡ all
    turn-splice out new all to to₂ f w q =
        (λ i. splice (w i) (f i) (rest ls)) ∙ (splice-append out to (line_in own global shared body l) (rest ls) ∙ (ap (splice out to) (sym turned) ∙ q))

    module _ (good : any is_ill_written left ≡ false) where
      both : (is_ill_written l || any is_ill_written ls) ≡ false
      unfolding any
      both = sym (ap (any is_ill_written) e) ∙ good

      pub turn-good : any is_ill_written ls ≡ false
      turn-good = or_right (is_ill_written l) _ both

      pub turn-ready : (code : Bytes) → line_limit ≤ length code → length (lines_of body) < 65536 → Ready l body code
      turn-ready code fits few =
          let w = written_in l (or_left _ _ both) in record { in-set = w.1; short = w.0; fits = fits; lines-count = few }

  -- the count, and then the lines
  abbrev all : Bytes
  all = lines_in own global shared body (lines_of body)

  pub body-size : length (body_in own global shared body) ≡ 2 + length all
  unfolding body_in
  body-size = length-append (two.put (length (lines_of body))) all ∙ ap (◌+ length all) (two-length (length (lines_of body)))

  pub body-end : (at end : ℕ) → end ≡ at + 2 + length all → end ≡ at + length (body_in own global shared body)
  body-end at end e = let z = body-size in omega (arith, e, z)

  pub body-written : (out new new₂ : Bytes) (at n : ℕ) → n ≡ length (lines_of body) → new ≡ splice out at (two.put n) → new₂ ≡ splice new (at + 2) all
      → new₂ ≡ splice out at (body_in own global shared body)
  unfolding body_in two
  body-written out new new₂ at n q e f =
      both-written out at (two.put (length (lines_of body))) all (at + 2) refl new new₂ (e ∙ ap (λ (m : ℕ). splice out at (two.put m)) q) f
