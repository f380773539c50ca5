-- A store to one cell gives that cell its value and changes no other. Assumes nothing.
use Prim.Native.Nat.{ℕ, zero, suc, ◌+◌, ◌*◌, ◌-◌, ◌/◌, ◌%◌, ◌≤◌, ◌<◌, ◌^◌}
use mathlib.Core.Path.{◌≡◌, refl, ap, sym, ◌∙◌}
use mathlib.Core.Bool.{Bool, true, false}
use mathlib.Core.List.{List, [], ◌∷◌, ◌++◌}
use mathlib.Core.Logic.{◌⊎◌, inl, inr, ⊎_elim}
use native.Mathlib.Omega.{arith}
use lib.Dec.{ltb}
use lib.ListN.{length, get_or, take, drop, set, drop_of_length-le, get_or-eq_default}
use lib.Seq.{take-set-le, drop-set-add, take-take, take-append_seam, get_or-take, get_or-drop, drop-cons}
use lib.IntN.{ℤ, pos, negsuc, ◌-ℤ◌}
use borrow.Author.Tests.{ltb-true, ltb-false, ne_eqb}
use Rattle.rules.proofs.Choices.{by}
use lib.Signed.{mag}
use mir.Val.{bool_byte}
use Rattle.text.specs.Bytes.{Bytes}
use Rattle.rules.specs.Choice.{choose}
use Rattle.rules.specs.Statement.{Set, set_a, set_b, set_c}
use Rattle.rules.specs.Evaluate.{Value, number, truth, string}
use Rattle.lent.specs.Splice.{splice}
use Rattle.lent.proofs.Writes.{splice-drop-behind, splice-drop, splice-cons}
use Rattle.spans.specs.Spans.{part_of}
use Rattle.work_cells.specs.Cells.{cell_size, cell_of, four_in, integer_in, string_in, value_in, values_from, four_of, sign_of, integer_cell, truth_cell, string_cell}

-- m bytes from a on, where n bytes from i on are written: apart
abbrev pub Apart : ℕ → ℕ → ℕ → ℕ → Type 0
Apart i n a m = (a + m ≤ i) ⊎ (i + n ≤ a)

set_before : (w : Bytes) (at b m n : ℕ) → m + n ≤ at → take n (drop m (set w at b)) ≡ take n (drop m w)
set_before w at b m n h =
    let e : at ≡ m + (at - m) = omega arith in
    let k : n ≤ at - m = omega arith in
    ap (λ i. take n (drop m (set w i b))) e ∙ ap (take n) (drop-set-add m w (at - m) b) ∙ take-set-le n (drop m w) (at - m) b k

splice-before : (w : Bytes) (at : ℕ) (s : Bytes) (m n : ℕ) → m + n ≤ at → take n (drop m (splice w at s)) ≡ take n (drop m w)
unfolding splice
splice-before w at [] m n h = refl
splice-before w at (b ∷ s) m n h = splice-before (set w at b) (suc at) s m n (omega arith) ∙ set_before w at b m n h

-- THE FRAME: what is written apart from a part leaves it as it was
pub part_apart : (w : Bytes) (at : ℕ) (s : Bytes) (m n : ℕ) → Apart at (length s) m n → take n (drop m (splice w at s)) ≡ take n (drop m w)
part_apart w at s m n p = ⊎_elim (λ h. splice-before w at s m n h) (λ h. ap (take n) (splice-drop-behind w at s m h)) p

pub values-apart : (w : Bytes) (at : ℕ) (s : Bytes) (k : ℕ) (ks : List Set) → Apart at (length s) (cell_size * k) (cell_size * length ks)
    → values_from (splice w at s) k ks ≡ values_from w k ks
unfolding values_from cell_of
values-apart w at s k [] p = refl
values-apart w at s k (t ∷ ks) p =
    let one : Apart at (length s) (cell_size * k) cell_size = ⊎_elim (λ h. inl (omega arith)) (λ h. inr (omega arith)) p in
    let others : Apart at (length s) (cell_size * suc k) (cell_size * length ks) = ⊎_elim (λ h. inl (omega arith)) (λ h. inr (omega arith)) p in
    λ j. value_in t (part_apart w at s (cell_size * k) cell_size one j) ∷ values-apart w at s (suc k) ks others j

-- a cell with bytes written over it
over : (w : Bytes) (k : ℕ) (s : Bytes) → cell_size * k + length s ≤ length w → cell_of (splice w (cell_size * k) s) k ≡ take cell_size (s ++ drop (cell_size * k + length s) w)
unfolding cell_of
over w k s h = ap (take cell_size) (splice-drop w (cell_size * k) s h)

-- a store to cell k + i of those from k on
pub values-kept : (w : Bytes) (k i : ℕ) (s : Bytes) (ks : List Set) (v : Value) → i < length ks → length s ≤ cell_size
    → value_in (get_or ks i set_a) (cell_of (splice w (cell_size * (k + i)) s) (k + i)) ≡ v
    → values_from (splice w (cell_size * (k + i)) s) k ks ≡ set (values_from w k ks) i v
unfolding values_from cell_of
values-kept w k i s [] v l h e = absurd (omega arith)
values-kept w k zero s (t ∷ ks) v l h e =
    let z : k + 0 ≡ k = omega arith in
    let far : Apart (cell_size * (k + 0)) (length s) (cell_size * suc k) (cell_size * length ks) = inr (omega arith) in
    let here : value_in t (cell_of (splice w (cell_size * (k + 0)) s) k) ≡ v = ap (λ j. value_in t (cell_of (splice w (cell_size * (k + 0)) s) j)) (sym z) ∙ e in
    λ j. here j ∷ values-apart w (cell_size * (k + 0)) s (suc k) ks far j
values-kept w k (suc i) s (t ∷ ks) v l h e =
    let z : k + suc i ≡ suc k + i = omega arith in
    let far : Apart (cell_size * (k + suc i)) (length s) (cell_size * k) cell_size = inl (omega arith) in
    let here : value_in t (cell_of (splice w (cell_size * (k + suc i)) s) k) ≡ value_in t (cell_of w k) = ap (value_in t) (part_apart w (cell_size * (k + suc i)) s (cell_size * k) cell_size far) in
    let e' : value_in (get_or ks i set_a) (cell_of (splice w (cell_size * (suc k + i)) s) (suc k + i)) ≡ v = ap (λ j. value_in (get_or ks i set_a) (cell_of (splice w (cell_size * j) s) j)) (sym z) ∙ e in
    let rest : values_from (splice w (cell_size * (suc k + i)) s) (suc k) ks ≡ set (values_from w (suc k) ks) i v = values-kept w (suc k) i s ks v (omega arith) h e' in
    let rest' : values_from (splice w (cell_size * (k + suc i)) s) (suc k) ks ≡ set (values_from w (suc k) ks) i v = ap (λ j. values_from (splice w (cell_size * j) s) (suc k) ks) z ∙ rest in
    λ j. here j ∷ rest' j

-- what a cell reads back
module _ (w : Bytes) (k : ℕ) where
  pub number-back : (z : ℤ) → mag z < 2 ^ 31 → cell_size * k + 5 ≤ length w → value_in set_a (cell_of (splice w (cell_size * k) (integer_cell z)) k) ≡ number z
  unfolding value_in integer_in four_in integer_cell four_of choose
  number-back (pos n) small h =
      let less : n < 2147483648 = small in
      let q : n / 16777216 % 256 % 128 ≡ n / 16777216 = omega arith in
      let e : ((n / 16777216 % 256 % 128 * 256 + n / 65536 % 256) * 256 + n / 256 % 256) * 256 + n % 256 ≡ n = rw q (omega arith) in
      ap (value_in set_a) (over w k (integer_cell (pos n)) h) ∙ ap (λ m. number (pos m)) e
  number-back (negsuc n) small h =
      let less : n < 2147483648 = small in
      let q : n / 16777216 % 256 % 128 ≡ n / 16777216 = omega arith in
      let e : ((n / 16777216 % 256 % 128 * 256 + n / 65536 % 256) * 256 + n / 256 % 256) * 256 + n % 256 ≡ n = rw q (omega arith) in
      ap (value_in set_a) (over w k (integer_cell (negsuc n)) h) ∙ ap (λ m. number (negsuc m)) e

  pub truth-back : (b : Bool) → cell_size * k + 1 ≤ length w → value_in set_b (cell_of (splice w (cell_size * k) (truth_cell b)) k) ≡ truth b
  unfolding value_in truth_cell choose
  truth-back true h = ap (value_in set_b) (over w k (truth_cell true) h)
  truth-back false h = ap (value_in set_b) (over w k (truth_cell false) h)

  pub string-back : (s : Bytes) → length s ≤ 255 → cell_size * k + suc (length s) ≤ length w → value_in set_c (cell_of (splice w (cell_size * k) (string_cell s)) k) ≡ string s
  unfolding value_in string_in string_cell
  string-back s short h =
      ap (value_in set_c) (over w k (string_cell s) h)
      ∙ ap string (take-take (length s) 255 _ short ∙ take-append_seam s _)

-- the bytes that the code writes
pub string-written : (w : Bytes) (at k : ℕ) (s : Bytes) → at ≡ k * 256 → splice (set w at (length s)) (at + 1) s ≡ splice w (cell_size * k) (string_cell s)
unfolding string_cell
string-written w at k s e = let z : at ≡ cell_size * k = omega arith in splice-cons w at (length s) s ∙ ap (λ i. splice w i (length s ∷ s)) z

pub truth_byte : (t : Bool) → choose t 1 0 ≡ bool_byte t
unfolding choose
truth_byte true = refl
truth_byte false = refl

pub truth-written : (w : Bytes) (at k b : ℕ) (t : Bool) → at ≡ k * 256 → choose t 1 0 ≡ b → set w at b ≡ splice w (cell_size * k) (truth_cell t)
unfolding truth_cell splice
truth-written w at k b t e h = let z : at ≡ cell_size * k = omega arith in λ j. set w (z j) (sym h j)

-- the string that the code cuts out
pub string-cut : (w : Bytes) (at k n : ℕ) → at ≡ k * 256 → n ≡ get_or w at 0 → n < 256 → at < length w → part_of w (at + 1) n ≡ string_in (cell_of w k)
unfolding part_of string_in cell_of
string-cut w at k n e h small inside =
    let z : cell_size * k ≡ at = omega arith in
    let o : at + 1 ≡ suc at = omega arith in
    let first : get_or (take cell_size (drop at w)) 0 0 ≡ n = get_or-take cell_size (drop at w) 0 0 (omega arith) ∙ ap (λ l. get_or l 0 0) (drop-cons w at 0 inside) ∙ sym h in
    let behind : drop 1 (take cell_size (drop at w)) ≡ take 255 (drop (suc at) w) = ap (λ l. drop 1 (take cell_size l)) (drop-cons w at 0 inside) in
    rw (z, first, behind, o) (sym (take-take n 255 (drop (suc at) w) (omega arith)))

-- a cell behind the workspace's end holds nothing
pub string-whole : (w : Bytes) (at k n : ℕ) → at ≡ k * 256 → n ≡ get_or w at 0 → n < 256 → part_of w (at + 1) n ≡ string_in (cell_of w k)
unfolding part_of string_in cell_of
string-whole w at k n e h small = by (ltb at (length w)) (λ l. string-cut w at k n e h small (ltb-true at (length w) l)) λ l.
    let z : cell_size * k ≡ at = omega arith in
    let none : n ≡ 0 = h ∙ get_or-eq_default w 0 (ltb-false at (length w) l) in
    rw (none, z, drop_of_length-le w (ltb-false at (length w) l))

-- the number that the code reads
pub number_cut : (w : Bytes) (at k a b c d : ℕ) → at ≡ k * 256 → a ≡ get_or w (at + 1) 0 % 128 → b ≡ get_or w (at + 2) 0 → c ≡ get_or w (at + 3) 0 → d ≡ get_or w (at + 4) 0
    → ((a * 256 + b) * 256 + c) * 256 + d ≡ four_in (cell_of w k)
unfolding four_in cell_of
number_cut w at k a b c d e p q r s =
    let z : cell_size * k ≡ at = omega arith in
    let read : (i : ℕ) → i < 256 → get_or (take cell_size (drop (cell_size * k) w)) i 0 ≡ get_or w (at + i) 0 = λ i h. get_or-take cell_size (drop (cell_size * k) w) i 0 h ∙ get_or-drop (cell_size * k) w i 0 ∙ ap (λ j. get_or w (j + i) 0) z in
    rw (read 1 (omega arith), read 2 (omega arith), read 3 (omega arith), read 4 (omega arith), p, q, r, s) refl

pub sign-cut : (w : Bytes) (at k : ℕ) → at ≡ k * 256 → get_or (cell_of w k) 0 0 ≡ get_or w at 0
unfolding cell_of
sign-cut w at k e =
    let z : cell_size * k + 0 ≡ at = omega arith in
    get_or-take cell_size (drop (cell_size * k) w) 0 0 (omega arith) ∙ get_or-drop (cell_size * k) w 0 0 ∙ ap (λ j. get_or w j 0) z

-- the number by its sign
pub positive : (c : Bytes) (n : ℕ) → get_or c 0 0 ≡ 0 → n ≡ four_in c → pos n ≡ integer_in c
unfolding integer_in choose
positive c n h e = rw (h, e) refl

pub negative : (c : Bytes) (n : ℕ) → (get_or c 0 0 ≡ 0 → ⊥) → n ≡ four_in c → negsuc n ≡ integer_in c
unfolding integer_in choose
negative c n h e = rw (ne_eqb (get_or c 0 0) 0 h, e) refl

pub less_one : (n : ℕ) → negsuc 0 -ℤ pos n ≡ negsuc n
less_one zero = refl
less_one (suc n) = let z : 0 + n ≡ n = omega arith in ap (λ k. negsuc (suc k)) z

pub signed-written : (w : Bytes) (at k sign : ℕ) (n : ℕ) → at ≡ k * 256 → splice (set w at sign) (at + 1) (n / 16777216 % 256 ∷ (n / 65536 % 256 ∷ (n / 256 % 256 ∷ (n % 256 ∷ [])))) ≡ splice w (cell_size * k) (sign ∷ four_of n)
unfolding four_of
signed-written w at k sign n e = let z : at ≡ cell_size * k = omega arith in splice-cons w at sign _ ∙ ap (λ i. splice w i (sign ∷ four_of n)) z

pub number-written : (z : ℤ) → sign_of z ∷ four_of (mag z) ≡ integer_cell z
unfolding sign_of integer_cell
number-written (pos n) = refl
number-written (negsuc n) = refl

pub number-told : (w : Bytes) (at sign n : ℕ) (z : ℤ) → sign ≡ sign_of z → n ≡ mag z → splice w at (sign ∷ four_of n) ≡ splice w at (integer_cell z)
number-told w at sign n z e f = ap (splice w at) ((λ j. e j ∷ four_of (f j)) ∙ number-written z)
