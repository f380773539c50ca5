-- What the code finds in the index. Assumes nothing.
use Prim.Native.Nat.{ℕ, ◌+◌, ◌*◌, ◌≤◌, ◌<◌}
use mathlib.Core.Path.{◌≡◌, sym, ap, ◌∙◌}
use Rattle.std.specs.Prelude.{Option, Some, None}
use mathlib.Core.Bool.{Bool, true, false, true≢false}
use native.Mathlib.Omega.{arith}
use lib.Dec.{ltb}
use lib.ListN.{get_or}
use borrow.Author.Tests.{lt-ltb, le-ltb}
use Rattle.text.specs.Bytes.{Bytes}
use Rattle.rules.proofs.Choices.{by, chosen, passed_over}
use Rattle.spans.specs.Spans.{part_of}
use Rattle.deck_reading.specs.Reading.{two_at, run_end}
use Rattle.deck_reading.specs.Heads.{macros_place}
use Rattle.work_frames.specs.Frames.{index_in}
use Rattle.work_frames.specs.Indexed.{four_at, first_in, count_in, found_in, macros_in, title_rows, parameter_count_in, locals_in, frame_in}
use Rattle.expand_levels.specs.declared.Level.{Level}

module _ (w index : Bytes) (index_is : index ≡ index_in w) where
  module _ (k i count : ℕ) (counted : count ≡ two_at index (2054 + 16 * k)) where
    count-is : count ≡ count_in (index_in w) k
    unfolding count_in
    count-is = counted ∙ ap (λ v. two_at v (2054 + 16 * k)) index_is

    pub is-behind : count ≤ i → None ≡ found_in (index_in w) k i
    unfolding found_in
    is-behind h = sym (passed_over _ _ (ap (ltb i) (sym count-is) ∙ le-ltb i count h))

    pub is_found : (first at : ℕ) → i < count → first ≡ two_at index (2052 + 16 * k) → at ≡ four_at index (4 * (first + i)) → Some at ≡ found_in (index_in w) k i
    unfolding found_in first_in
    is_found first at h f e =
        ap Some (e ∙ (λ j. four_at (index_is j) (4 * ((f ∙ ap (λ v. two_at v (2052 + 16 * k)) index_is) j + i))))
        ∙ sym (chosen _ _ (ap (ltb i) (sym count-is) ∙ lt-ltb i count h))

  pub rows_are : (deck r : Bytes) (globals count : ℕ) → globals ≡ two_at deck 5 → count ≡ two_at deck (7 + globals) → r ≡ part_of index 2560 (8 * count) → r ≡ title_rows (index_in w) (macros_in deck)
  unfolding title_rows macros_in macros_place run_end
  rows_are deck r globals count g c e = e ∙ (λ j. part_of (index_is j) 2560 (8 * (c ∙ ap (λ n. two_at deck (7 + n)) g) j))

  pub frame_is : (l : Level) (depth params locals : ℕ) → params ≡ get_or index (2059 + 16 * l.body) 0 → locals ≡ four_at index (2060 + 16 * l.body)
      → record { depth = depth; params = params; number = l.number; locals = locals } ≡ frame_in (index_in w) l depth
  unfolding frame_in parameter_count_in locals_in
  frame_is l depth params locals p e = λ j. record {
    depth = depth;
    params = (p ∙ ap (λ v. get_or v (2059 + 16 * l.body) 0) index_is) j;
    number = l.number;
    locals = (e ∙ ap (λ v. four_at v (2060 + 16 * l.body)) index_is) j;
  }

-- what an answer says
is_there : Option ℕ → Bool
is_there (Some at) = true
is_there None = false

place_of : Option ℕ → ℕ
place_of (Some at) = at
place_of None = 0

pub not_there : {P : Type 0} (at : ℕ) → None ≡ Some at → P
unfolding is_there
not_there at e = absurd (true≢false (sym (ap is_there e)))

pub small-place : (k at : ℕ) → Some k ≡ Some at → k < 4294967296 → at < 4294967296
unfolding place_of
small-place k at e h = let q : k ≡ at = ap place_of e in omega (arith, q, h)

module _ (index : Bytes) (k i : ℕ) (r : Option ℕ) (is : r ≡ found_in index k i) where
  pub found-told : (at : ℕ) → r ≡ Some at → (ltb i (count_in index k) ≡ true) × (at ≡ four_at index (4 * (first_in index k + i)))
  unfolding found_in place_of
  found-told at e =
      by (ltb i (count_in index k))
      (λ t. (t, ap place_of (sym e ∙ is ∙ chosen (Some (four_at index (4 * (first_in index k + i)))) None t)))
      (λ t. not_there at (sym (passed_over (Some (four_at index (4 * (first_in index k + i)))) None t) ∙ sym is ∙ e))

  pub behind-told : r ≡ None → ltb i (count_in index k) ≡ false
  unfolding found_in
  behind-told e =
      by (ltb i (count_in index k))
      (λ t. not_there (four_at index (4 * (first_in index k + i))) (sym e ∙ is ∙ chosen (Some (four_at index (4 * (first_in index k + i)))) None t))
      (λ t. t)
