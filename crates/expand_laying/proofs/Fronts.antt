-- Fronts of texts: what is kept of two texts gives what is kept of one behind the other; and the code's writes do so in a buffer. Assumes nothing.
use Prim.Native.Nat.{ℕ, zero, suc, ◌+◌, ◌-◌, ◌≤◌, ◌<◌}
use native.Mathlib.Nat.{zero-add}
use native.Mathlib.Omega.{arith}
use mathlib.Core.Path.{◌≡◌, refl, ap, sym, ◌∙◌}
use mathlib.Core.Bool.{true, false}
use mathlib.Core.List.{[], ◌∷◌, ◌++◌, append_assoc}
use lib.Dec.{eqb, ltb}
use lib.ListN.{length, take, drop, replicate, length-append, length-replicate}
use lib.Seq.{take-take, take_all, take_at, take-append-add, length-take-le}
use borrow.Author.Tests.{ltb-true, ltb-false, le-ltb, eqb-true, eq-eqb, ne_eqb}
use Rattle.text.specs.Bytes.{Bytes}
use Rattle.rules.specs.Choice.{choose}
use Rattle.rules.specs.Limits.{line_limit, string_limit}
use Rattle.rules.specs.Lexemes.{space}
use Rattle.rules.specs.Fields.{is_empty}
use Rattle.rules.specs.Calls.{put_at, laid_out}
use Rattle.rules.proofs.Choices.{by, chosen, passed_over, into}
use Rattle.lent.specs.Splice.{splice}
use Rattle.lent.proofs.Writes.{splice-is}
use Rattle.spans.specs.Spans.{part_of}
use Rattle.expand_laying.specs.Solid.{solid, solid_both, gap}
use Rattle.expand_laying.specs.Kept.{Kept, kept_of, kept_in, at_most, joined_kept, put_kept, laid_kept}
use Rattle.expand_laying.specs.declared.Field.{Field}
use Rattle.expand_laying.proofs.Solids.{solid-both, solid-within, empty-size, gone}

-- ---- a front of a joined text needs only the fronts of both

front-left : (k : ℕ) (a b : Bytes) → take k (take k a ++ b) ≡ take k (a ++ b)
front-left zero a b = refl
front-left (suc k) [] b = refl
front-left (suc k) (x ∷ a) b = ap (λ l. x ∷ l) (front-left k a b)

front-right : (k : ℕ) (a b : Bytes) (n : ℕ) → k ≤ n → take k (a ++ take n b) ≡ take k (a ++ b)
front-right k [] b n h = take-take k n b h
front-right zero (x ∷ a) b n h = refl
front-right (suc k) (x ∷ a) b n h = ap (λ l. x ∷ l) (front-right k a b n (omega arith))

pub front-both : (k : ℕ) (a b : Bytes) → take k (take k a ++ take k b) ≡ take k (a ++ b)
front-both k a b = front-left k a (take k b) ∙ front-right k a b k (omega arith)

-- HOMOMORPHISM: joining
pub joined-kept : (k : ℕ) (a b : Bytes) → joined_kept k (kept_of k a) (kept_of k b) ≡ kept_of k (a ++ b)
unfolding joined_kept kept_of
joined-kept k a b = λ j. record { front = front-both k a b j; size = sym (length-append a b) j; solid = sym (solid-both a b) j }

-- of fewer bytes
pub kept_less : (k n : ℕ) (out : Bytes) (f : Field) (s : Bytes) → k ≤ n → kept_in n out f ≡ kept_of n s → kept_in k out f ≡ kept_of k s
unfolding kept_in kept_of
kept_less k n out f s h e =
    let front : take k (take f.size out) ≡ take k s = sym (take-take k n (take f.size out) h) ∙ ap (λ (x : Kept). take k x.front) e ∙ take-take k n s h in
    λ j. record { front = front j; size = (e j).size; solid = (e j).solid }

-- ---- `put_at` and `laid_out`

pub put-kept : (before : ℕ) (l f : Bytes) → put_kept before (kept_of line_limit l) (kept_of line_limit f) ≡ kept_of line_limit (put_at before l f)
unfolding put_kept put_at gap kept_of
put-kept before l f =
    let spaces = replicate (choose (ltb (length l) before) (before - length l) 1) space in
    ap (λ x. joined_kept line_limit x (kept_of line_limit f)) (joined-kept line_limit l spaces) ∙ joined-kept line_limit (l ++ spaces) f ∙ ap (kept_of line_limit) (append_assoc l spaces f)

-- THE LINE: what is kept of its fields gives what is kept of it
pub laid-kept : (n o a : Bytes) → laid_kept (kept_of line_limit n) (kept_of line_limit o) (kept_of line_limit a) ≡ kept_of line_limit (laid_out n o a)
unfolding laid_kept laid_out kept_of
laid-kept n o a =
    (λ j. choose (sym (empty-size a) j) (put-kept 9 n o j) (put_kept 15 (put-kept 9 n o j) (kept_of line_limit a)))
    ∙ ap (choose (is_empty a) (kept_of line_limit (put_at 9 n o))) (put-kept 15 (put_at 9 n o) a)
    ∙ sym (into (kept_of line_limit) (is_empty a) (put_at 9 n o) (put_at 15 (put_at 9 n o) a))

-- ---- the code's writes

-- the smaller of two numbers is neither's superior
pub at-most-left : (k n m : ℕ) → k ≤ m → at_most k n ≤ m
unfolding at_most
at-most-left k n m h = by (ltb k n) (λ e. rw (chosen k n e) h) (λ e. let less : n ≤ k = ltb-false k n e in rw (passed_over k n e) (omega arith))

pub at-most-right : (k n m : ℕ) → n ≤ m → at_most k n ≤ m
unfolding at_most
at-most-right k n m h = by (ltb k n) (λ e. let less : k < n = ltb-true k n e in rw (chosen k n e) (omega arith)) (λ e. rw (passed_over k n e) h)

-- a front is as long as it is asked for, where there is so much
enough : (j g : ℕ) (s : Bytes) → j ≤ length s → j ≤ g → j ≤ length (take g s)
enough j g s a b = by (ltb (length s) g)
    (λ e. let less : length s < g = ltb-true (length s) g e in rw (take_all g s (omega arith)) a)
    (λ e. let less : g ≤ length s = ltb-false (length s) g e in rw (length-take-le g s less) b)

short : (j : ℕ) (s : Bytes) → length (take j s) ≤ j
short zero s = omega arith
short (suc j) [] = omega arith
short (suc j) (x ∷ s) = let less = short j s in omega arith

behind : (p q : Bytes) (n m : ℕ) → length p ≡ n → take (n + m) (p ++ q) ≡ p ++ take m q
behind p q n m e = ap (λ i. take (i + m) (p ++ q)) (sym e) ∙ take-append-add p q m

-- so many bytes as fit, with others behind them: they are what is read
fits : (j g k : ℕ) (s rest : Bytes) → j ≤ k → at_most k g ≤ length s → take j (take g (take j (take g s) ++ rest)) ≡ take j (take g s)
unfolding at_most
fits j g k s rest h room = by (ltb g j)
    (λ e. let less : g < j = ltb-true g j e in
    let least : choose (ltb k g) k g ≡ g = passed_over k g (le-ltb k g (omega arith)) in
    let small : g ≤ length s = omega arith in
    let size : length (take g s) ≡ g = length-take-le g s small in
    let all : take j (take g s) ≡ take g s = take_all j (take g s) (omega arith) in
    ap (λ t. take j (take g (t ++ rest))) all ∙ ap (take j) (take_at (take g s) rest g size))
    (λ e. let less : j ≤ g = ltb-false g j e in
    let long : j ≤ length (take g s) = by (ltb k g)
    (λ f. let least : choose (ltb k g) k g ≡ k = chosen k g f in enough j g s (omega arith) less)
    (λ f. let least : choose (ltb k g) k g ≡ g = passed_over k g f in enough j g s (omega arith) less) in
    take-take j g (take j (take g s) ++ rest) less ∙ take_at (take j (take g s)) rest j (length-take-le j (take g s) long))

-- a text written behind another, so much of it as stands before the limit
written : (k at g : ℕ) (out s : Bytes) → k ≤ length out → at_most k g ≤ length s
    → take k (take (at + g) (splice out at (take (k - at) (take g s)))) ≡ take k (take at out ++ take g s)
unfolding splice
written k at g out s room filled = by (ltb at k) inside beyond
  where
    inside : ltb at k ≡ true → take k (take (at + g) (splice out at (take (k - at) (take g s)))) ≡ take k (take at out ++ take g s)
    inside e =
        let less : at < k = ltb-true at k e in
        let j = k - at in
        let t = take j (take g s) in
        let whole : k ≡ at + j = omega arith in
        let few : length t ≤ j = short j (take g s) in
        let size : length (take at out) ≡ at = length-take-le at out (omega arith) in
        ap (λ o. take k (take (at + g) o)) (splice-is out at t (omega arith))
        ∙ ap (take k) (behind (take at out) (t ++ drop (at + length t) out) at g size)
        ∙ ap (λ i. take i (take at out ++ take g (t ++ drop (at + length t) out))) whole
        ∙ behind (take at out) (take g (t ++ drop (at + length t) out)) at j size
        ∙ ap (λ l. take at out ++ l) (fits j g k s (drop (at + length t) out) (omega arith) filled)
        ∙ sym (behind (take at out) (take g s) at j size)
        ∙ ap (λ i. take i (take at out ++ take g s)) (sym whole)

    beyond : ltb at k ≡ false → take k (take (at + g) (splice out at (take (k - at) (take g s)))) ≡ take k (take at out ++ take g s)
    beyond e =
        let less : k ≤ at = ltb-false at k e in
        let none : k - at ≡ 0 = omega arith in
        ap (λ n. take k (take (at + g) (splice out at (take n (take g s))))) none
        ∙ take-take k (at + g) out (omega arith)
        ∙ sym (take_at (take k out) (take g s) k (length-take-le k out room))
        ∙ ap (λ l. take k (l ++ take g s)) (sym (take-take k at out less))
        ∙ front-left k (take at out) (take g s)

-- `copy_front`
pub none_written : (out s : Bytes) (at k : ℕ) → k ≤ at → out ≡ splice out at (part_of s 0 (k - at))
unfolding splice part_of
none_written out s at k h = let none : k - at ≡ 0 = omega arith in ap (λ n. splice out at (take n s)) (sym none)

pub part-fits : (s p : Bytes) (at k n : ℕ) → p ≡ part_of s 0 (k - at) → at < k → k ≤ n → at + length p ≤ n
unfolding part_of
part-fits s p at k n e less room = let few = short (k - at) s in let size : length p ≡ length (take (k - at) s) = ap length e in omega arith

-- `add`
pub added : (k : ℕ) (out out₁ s p : Bytes) (f g r : Field) → p ≡ part_of s 0 g.size → out₁ ≡ splice out f.size (part_of p 0 (k - f.size))
    → (r.size ≡ f.size + g.size) × (r.solid ≡ solid_both f.size f.solid g.solid) → k ≤ length out → at_most k g.size ≤ length s
    → kept_in k out₁ r ≡ joined_kept k (kept_in k out f) (kept_in k s g)
unfolding kept_in joined_kept part_of
added k out out₁ s p f g r cut e sizes room filled =
    let front : take k (take r.size out₁) ≡ take k (take k (take f.size out) ++ take k (take g.size s)) =
    (λ j. take k (take (sizes.0 j) (e j))) ∙ ap (λ l. take k (take (f.size + g.size) (splice out f.size (take (k - f.size) l)))) cut
    ∙ written k f.size g.size out s room filled ∙ sym (front-both k (take f.size out) (take g.size s)) in
    λ j. record { front = front j; size = sizes.0 j; solid = sizes.1 j }

pub solid-fits : (n : ℕ) (s : Bytes) → n ≡ solid s → n ≤ length s
solid-fits n s e = let less = solid-within s in omega arith

-- what a whole slice keeps, with its two lengths
pub whole-kept : (k : ℕ) (s : Bytes) (f : Field) → f.size ≡ length s → f.solid ≡ solid s → kept_in k s f ≡ kept_of k s
unfolding kept_in kept_of
whole-kept k s f e h = λ j. record { front = (ap (λ n. take k (take n s)) e ∙ ap (take k) (take_all (length s) s (omega arith))) j; size = e j; solid = h j }

-- nothing in front changes nothing
pub joined-none : (k : ℕ) (out s : Bytes) (f g : Field) → f.size ≡ 0 → f.solid ≡ 0 → joined_kept k (kept_in k out f) (kept_in k s g) ≡ kept_in k s g
unfolding kept_in joined_kept solid_both
joined-none k out s f g e h =
    λ j. record {
      front = (ap (λ n. take k (take k (take n out) ++ take k (take g.size s))) e ∙ front-both k [] (take g.size s)) j;
      size = (ap (λ n. n + g.size) e ∙ zero-add g.size) j;
      solid = ((λ i. choose (eqb g.solid 0) (h i) (e i + g.solid)) ∙ by (eqb g.solid 0)
          (λ t. chosen 0 (0 + g.solid) t ∙ sym (eqb-true g.solid 0 t))
          (λ t. passed_over 0 (0 + g.solid) t ∙ zero-add g.solid)) j;
    }

-- `put`
gap-small : (before n : ℕ) → before ≤ 15 → gap before n ≤ 15
unfolding gap
gap-small before n h = by (ltb n before) (λ e. rw (chosen (before - n) 1 e) (omega arith)) (λ e. rw (passed_over (before - n) 1 e) (omega arith))

-- the code's count of them
pub gap-few : (before n k : ℕ) → before ≤ 15 → k ≡ gap before n → k ≤ 15
gap-few before n k h e = let few = gap-small before n h in omega arith

spaces-kept : (n : ℕ) (f : Field) → f.size ≡ n → f.solid ≡ 0 → n ≤ 15 → kept_in line_limit (replicate 15 space) f ≡ kept_of line_limit (replicate n space)
unfolding kept_in kept_of
spaces-kept n f e z h =
    λ j. record { front = (ap (λ k. take line_limit (take k (replicate 15 space))) e ∙ ap (take line_limit) (fewer n 15 h)) j; size = (e ∙ sym (length-replicate n space)) j; solid = (z ∙ sym (gone n)) j }
  where
    fewer : (n m : ℕ) → n ≤ m → take n (replicate m space) ≡ replicate n space
    fewer zero m h = refl
    fewer (suc n) zero h = absurd (omega arith)
    fewer (suc n) (suc m) h = ap (λ l. space ∷ l) (fewer n m (omega arith))

module _ (before : ℕ) (line line₁ line₂ s : Bytes) (l g x f r : Field) (column : before ≤ 15) where
  pub put-by : g.size ≡ gap before l.size → g.solid ≡ 0
      → kept_in line_limit line₁ x ≡ joined_kept line_limit (kept_in line_limit line l) (kept_in line_limit (replicate 15 space) g)
      → kept_in line_limit line₂ r ≡ joined_kept line_limit (kept_in line_limit line₁ x) (kept_in line_limit s f)
      → kept_in line_limit line₂ r ≡ put_kept before (kept_in line_limit line l) (kept_in line_limit s f)
  unfolding put_kept kept_in
  put-by e z first second =
      second ∙ ap (λ k. joined_kept line_limit k (kept_in line_limit s f)) (first ∙ ap (joined_kept line_limit (kept_in line_limit line l)) (spaces-kept (gap before l.size) g e z (gap-small before l.size column)))

-- sizes
pub joined-size : (k : ℕ) (out out₁ s : Bytes) (f g r : Field) → kept_in k out₁ r ≡ joined_kept k (kept_in k out f) (kept_in k s g) → r.size ≡ f.size + g.size
unfolding kept_in joined_kept
joined-size k out out₁ s f g r e = ap (λ (x : Kept). x.size) e

pub put-within : (before : ℕ) (line line₁ s : Bytes) (l f r : Field) → before ≤ 15 → kept_in line_limit line₁ r ≡ put_kept before (kept_in line_limit line l) (kept_in line_limit s f)
    → r.size ≤ l.size + f.size + 15
unfolding kept_in put_kept joined_kept kept_of
put-within before line line₁ s l f r h e =
    let size : r.size ≡ l.size + length (replicate (gap before l.size) space) + f.size = ap (λ (x : Kept). x.size) e in
    let spaces : length (replicate (gap before l.size) space) ≡ gap before l.size = length-replicate (gap before l.size) space in
    let few = gap-small before l.size h in
    omega arith

-- `lay`
module _ (line line₁ line₂ name operation operand : Bytes) (z n o a x y : Field) (begun : (z.size ≡ 0) × (z.solid ≡ 0))
    (first : kept_in line_limit line₁ x ≡ joined_kept line_limit (kept_in line_limit line z) (kept_in line_limit name n))
    (second : kept_in line_limit line₂ y ≡ put_kept 9 (kept_in line_limit line₁ x) (kept_in line_limit operation o)) where
  two_fields : kept_in line_limit line₂ y ≡ put_kept 9 (kept_in line_limit name n) (kept_in line_limit operation o)
  two_fields = second ∙ ap (λ k. put_kept 9 k (kept_in line_limit operation o)) (first ∙ joined-none line_limit line name z n begun.0 begun.1)

  pub laid-two : a.size ≡ 0 → kept_in line_limit line₂ y ≡ laid_kept (kept_in line_limit name n) (kept_in line_limit operation o) (kept_in line_limit operand a)
  unfolding laid_kept kept_in
  laid-two e = two_fields ∙ sym (chosen (put_kept 9 (kept_in line_limit name n) (kept_in line_limit operation o)) _ (eq-eqb a.size 0 e))

  pub laid-three : (line₃ : Bytes) (w : Field) → (a.size ≡ 0 → ⊥) → kept_in line_limit line₃ w ≡ put_kept 15 (kept_in line_limit line₂ y) (kept_in line_limit operand a)
      → kept_in line_limit line₃ w ≡ laid_kept (kept_in line_limit name n) (kept_in line_limit operation o) (kept_in line_limit operand a)
  unfolding laid_kept kept_in
  laid-three line₃ w e third =
      third ∙ ap (λ k. put_kept 15 k (kept_in line_limit operand a)) two_fields
      ∙ sym (passed_over (put_kept 9 (kept_in line_limit name n) (kept_in line_limit operation o)) _ (ne_eqb a.size 0 e))

-- `append_field`, as a caller has it
pub appended : (out out₁ a s : Bytes) (f r : Field) → kept_in string_limit out f ≡ kept_of string_limit a
    → kept_in string_limit out₁ r ≡ joined_kept string_limit (kept_in string_limit out f) (kept_of string_limit s) → kept_in string_limit out₁ r ≡ kept_of string_limit (a ++ s)
appended out out₁ a s f r e h = h ∙ ap (λ k. joined_kept string_limit k (kept_of string_limit s)) e ∙ joined-kept string_limit a s

-- its lengths, which a caller needs whatever the texts stand for
pub appended-size : (out out₁ s : Bytes) (f r : Field) → kept_in string_limit out₁ r ≡ joined_kept string_limit (kept_in string_limit out f) (kept_of string_limit s)
    → r.size ≡ f.size + length s
unfolding kept_in joined_kept kept_of
appended-size out out₁ s f r e = ap (λ (x : Kept). x.size) e

pub appended-solid : (out out₁ s : Bytes) (f r : Field) → kept_in string_limit out₁ r ≡ joined_kept string_limit (kept_in string_limit out f) (kept_of string_limit s)
    → f.solid ≤ f.size → r.solid ≤ r.size
unfolding kept_in joined_kept kept_of solid_both
appended-solid out out₁ s f r e h =
    let size : r.size ≡ f.size + length s = ap (λ (x : Kept). x.size) e in
    let most = solid-within s in
    by (eqb (solid s) 0)
    (λ t. let is : r.solid ≡ f.solid = ap (λ (x : Kept). x.solid) e ∙ chosen f.solid (f.size + solid s) t in omega arith)
    (λ t. let is : r.solid ≡ f.size + solid s = ap (λ (x : Kept). x.solid) e ∙ passed_over f.solid (f.size + solid s) t in omega arith)
