-- Reading a counted run of things of one byte each is cutting it out and testing its bytes. Assumes nothing.
use Prim.Native.Nat.{ℕ, zero, suc, ◌+◌, ◌*◌, ◌-◌, ◌≤◌, ◌<◌}
use mathlib.Core.Path.{◌≡◌, refl, sym, ap, ◌∙◌}
use mathlib.Core.Bool.{Bool, true, false, ◌&&◌, true≢false}
use mathlib.Core.List.{List, [], ◌∷◌, map}
use mathlib.Core.Option.{Option, none, some}
use native.Mathlib.Omega.{arith}
use lib.Dec.{leb, ltb}
use lib.ListN.{length, get_or, take, drop, length-drop}
use lib.Seq.{drop-cons, drop-drop, get_or-drop}
use borrow.Author.Tests.{leb-true, leb-false, le-leb, lt-leb}
use Rattle.text.specs.Bytes.{Bytes}
use Rattle.rules.specs.Choice.{choose, every}
use Rattle.rules.proofs.Choices.{by, either, chosen, passed_over, and_left, and_right}
use Rattle.deck.specs.Coding.{after, Coder, get_byte, two, get_all, list_of}
use Rattle.spans.specs.Spans.{part_of}
use Rattle.std.specs.Prelude.{Option as Found, Some, None}
use Rattle.std.specs.Bool.{then_some}
use Rattle.deck_reading.specs.Reading.{two_at, run_at, run_end, found, is_there, run_found, below_found, reads}

-- ---- numbers of two bytes

pub two-there : (s : Bytes) (at : ℕ) → at + 1 < length s → two.get (drop at s) ≡ some (two_at s at, drop (at + 2) s)
unfolding two after get_byte two_at
two-there s at h =
    let a : at < length s = omega arith in
    let b : suc at < length s = omega arith in
    let e : at + 1 ≡ suc at = omega arith in
    let f : at + 2 ≡ suc (suc at) = omega arith in
    rw (drop-cons s at 0 a, drop-cons s (suc at) 0 b, e, f)

pub two-missing : (s : Bytes) (at : ℕ) → length s - at < 2 → two.get (drop at s) ≡ none
unfolding two after get_byte
two-missing s at h = cases (drop at s) (rw (length-drop at s) h)
  where
    cases : (t : Bytes) → length t < 2 → after (get_byte t) (λ a t. after (get_byte t) λ b u. some (a * 256 + b, u)) ≡ none
    cases [] k = refl
    cases (a ∷ []) k = refl
    cases (a ∷ (b ∷ t)) k = absurd (omega arith)

-- what is read at a place depends on the bytes from there on alone
module _ (s : Bytes) (m n : ℕ) (e : drop m s ≡ drop n s) where
  byte-same : (i : ℕ) → get_or s (m + i) 0 ≡ get_or s (n + i) 0
  byte-same i = sym (get_or-drop m s i 0) ∙ (ap (λ (t : Bytes). get_or t i 0) e ∙ get_or-drop n s i 0)

  pub two-same : two_at s m ≡ two_at s n
  unfolding two_at
  two-same =
      let x : m + 0 ≡ m = omega arith in
      let y : n + 0 ≡ n = omega arith in
      let p : get_or s m 0 ≡ get_or s n 0 = ap (λ (i : ℕ). get_or s i 0) (sym x) ∙ (byte-same 0 ∙ ap (λ (i : ℕ). get_or s i 0) y) in
      let q = byte-same 1 in
      λ j. p j * 256 + q j

  pub run-same : run_at s m ≡ run_at s n
  unfolding run_at part_of
  run-same = λ j. take (two-same j) ((sym (drop-drop 2 m s) ∙ (ap (drop 2) e ∙ drop-drop 2 n s)) j)

  pub end_same : drop (run_end s m) s ≡ drop (run_end s n) s
  unfolding run_end
  end_same =
      let p = drop-drop (2 + two_at s m) m s in
      let q = drop-drop (2 + two_at s n) n s in
      let x : m + 2 + two_at s m ≡ m + (2 + two_at s m) = omega arith in
      let y : n + 2 + two_at s n ≡ n + (2 + two_at s n) = omega arith in
      ap (λ (i : ℕ). drop i s) x ∙ (sym p ∙ ((λ j. drop (2 + two-same j) (e j)) ∙ (q ∙ ap (λ (i : ℕ). drop i s) (sym y))))

-- ---- a run that is there

end_of : Found ℕ → ℕ
end_of (Some n) = n
end_of None = 0

unfoldable pub is_to : Found ℕ → Bool
is_to (Some n) = true
is_to None = false

module _ (s : Bytes) {n : ℕ} where
  pub found-is : {m : ℕ} → Some m ≡ found s n → m ≡ n
  unfolding found is_to end_of
  found-is {m} e = by (leb n (length s))
      (λ h. ap end_of (e ∙ chosen (Some n) None h))
      (λ h. absurd (true≢false (ap is_to (e ∙ passed_over (Some n) None h))))

  pub found-in : {m : ℕ} → Some m ≡ found s n → n ≤ length s
  unfolding found is_to
  found-in {m} e = by (leb n (length s))
      (λ h. leb-true n (length s) h)
      (λ h. absurd (true≢false (ap is_to (e ∙ passed_over (Some n) None h))))

  pub found-out : None ≡ found s n → length s < n
  unfolding found is_to
  found-out e = by (leb n (length s))
      (λ h. absurd (true≢false (sym (ap is_to (e ∙ chosen (Some n) None h)))))
      (λ h. leb-false n (length s) h)

  -- a place that no number is, and one by the test of the code
  pub place-over : length s < 18446744073709551616 → (n < 18446744073709551616 → ⊥) → None ≡ found s n
  unfolding found
  place-over l h = let k : length s < n = omega (arith, h) in sym (passed_over (Some n) None (lt-leb n (length s) k))

  pub place-told : {m : ℕ} → m ≡ n → then_some (leb m (length s)) m ≡ found s n
  unfolding found choose
  place-told e = rw e (either (λ o. then_some (leb n (length s)) n ≡ o) (leb n (length s)) (λ h. rw h) (λ h. rw h))

-- two bytes, where they stand
pub two-from : (s : Bytes) (at : ℕ) {a b : ℕ} {rest : Bytes} → a ≡ get_or rest 0 0 → b ≡ get_or rest 1 0 → rest ≡ drop at s → a * 256 + b ≡ two_at s at
unfolding two_at
two-from s at ea eb e =
    let x : at + 0 ≡ at = omega arith in
    let p = ea ∙ (ap (λ (t : Bytes). get_or t 0 0) e ∙ (get_or-drop at s 0 0 ∙ ap (λ (i : ℕ). get_or s i 0) x)) in
    let q = eb ∙ (ap (λ (t : Bytes). get_or t 1 0) e ∙ get_or-drop at s 1 0) in
    λ j. p j * 256 + q j

module _ (s : Bytes) (at : ℕ) where
  -- a run's bytes are found behind its count
  pub cut_off : None ≡ found s (at + 2) → None ≡ run_found s at
  unfolding run_found is_there
  cut_off e = let h : length s < at + 2 = found-out s e in sym (ap (λ (b : Bool). choose (b && leb (run_end s at) (length s)) (Some (run_end s at)) None) (lt-leb (at + 2) (length s) h) ∙ passed_over _ _ refl)

  pub goes_on : {m : ℕ} → Some m ≡ found s (at + 2) → found s (m + two_at s at) ≡ run_found s at
  unfolding run_found is_there run_end found
  goes_on {m} e =
      let h : at + 2 ≤ length s = found-in s e in
      ap (λ (i : ℕ). found s (i + two_at s at)) (found-is s e)
      ∙ sym (ap (λ (b : Bool). choose (b && leb (at + 2 + two_at s at) (length s)) (Some (at + 2 + two_at s at)) None) (le-leb (at + 2) (length s) h))

  pub record There (end : ℕ) : Type 0 where
    pub behind-count : at + 2 ≤ length s
    pub behind-run : end ≤ length s
    pub is-end : end ≡ run_end s at

  pub found-there : {end : ℕ} → Some end ≡ run_found s at → There end
  unfolding run_found is_there run_end end_of is_to
  found-there {end} e = by (is_there s at)
      (λ h. let is : end ≡ run_end s at = ap end_of (e ∙ chosen _ _ h) in record {
        behind-count = leb-true (at + 2) (length s) (first h);
        behind-run = rw is (leb-true (run_end s at) (length s) (second h));
        is-end = is;
      })
      (λ h. absurd (true≢false (ap is_to (e ∙ passed_over _ _ h))))
    where
      first : is_there s at ≡ true → leb (at + 2) (length s) ≡ true
      first h = and_left _ _ h

      second : is_there s at ≡ true → leb (run_end s at) (length s) ≡ true
      second h = and_right (leb (at + 2) (length s)) _ h

-- ---- things of one byte

pub record OneByte {A : Type 0} (c : Coder A) (good : ℕ → Bool) (value : ℕ → A) : Type 0 where
  pub stop : c.get [] ≡ none
  pub yes : (b : ℕ) (t : Bytes) → good b ≡ true → c.get (b ∷ t) ≡ some (value b, t)
  pub no : (b : ℕ) (t : Bytes) → good b ≡ false → c.get (b ∷ t) ≡ none

module _ {A : Type 0} {c : Coder A} {good : ℕ → Bool} {value : ℕ → A} (o : OneByte c good value) where
  all_read : (n : ℕ) (t : Bytes) → n ≤ length t → every good (take n t) ≡ true → get_all c n t ≡ some (map value (take n t), drop n t)
  unfolding get_all every after
  all_read zero t h e = refl
  all_read (suc n) [] h e = absurd (omega arith)
  all_read (suc n) (b ∷ t) h e =
      rw (o.yes b t (and_left _ _ e), all_read n t (omega arith) (and_right (good b) _ e))

  one-bad : (n : ℕ) (t : Bytes) → n ≤ length t → every good (take n t) ≡ false → get_all c n t ≡ none
  unfolding get_all every after
  one-bad zero t h e = absurd (true≢false e)
  one-bad (suc n) [] h e = absurd (omega arith)
  one-bad (suc n) (b ∷ t) h e = by (good b)
      (λ f. rw (o.yes b t f, one-bad n t (omega arith) (ap (λ (x : Bool). x && every good (take n t)) (sym f) ∙ e)))
      (λ f. rw (o.no b t f))

  too_short : (n : ℕ) (t : Bytes) → length t < n → get_all c n t ≡ none
  unfolding get_all after
  too_short zero t h = absurd (omega arith)
  too_short (suc n) [] h = rw o.stop
  too_short (suc n) (b ∷ t) h = by (good b)
      (λ f. rw (o.yes b t f, too_short n t (omega arith)))
      (λ f. rw (o.no b t f))

  module _ (s : Bytes) (at : ℕ) where
    none-there : length s - at < 2 → none ≡ (list_of c).get (drop at s)
    unfolding list_of after
    none-there h = sym (ap (λ r. after r λ n t. get_all c n t) (two-missing s at h))

    counted : at + 2 ≤ length s → (list_of c).get (drop at s) ≡ get_all c (two_at s at) (drop (at + 2) s)
    unfolding list_of after
    counted h = ap (λ r. after r λ n t. get_all c n t) (two-there s at (omega arith))

    -- no run, nothing read
    pub not_found : None ≡ run_found s at → none ≡ (list_of c).get (drop at s)
    unfolding run_found is_there run_end is_to
    not_found e = by (leb (at + 2) (length s))
        (λ h. by (leb (run_end s at) (length s))
        (λ k. absurd (true≢false (sym (ap is_to (e ∙ chosen (Some (run_end s at)) None (both h k))))))
        (λ k. short (leb-true (at + 2) (length s) h) (leb-false (run_end s at) (length s) k)))
        (λ h. let x = leb-false (at + 2) (length s) h in let y : length s - at < 2 = omega arith in none-there y)
      where
        both : {x y : Bool} → x ≡ true → y ≡ true → (x && y) ≡ true
        both h k = λ j. h j && k j

        short : at + 2 ≤ length s → length s < run_end s at → none ≡ (list_of c).get (drop at s)
        short h k = sym (counted h ∙ too_short (two_at s at) (drop (at + 2) s) (rw (length-drop (at + 2) s) (omega arith)))

    -- a run, by its bytes
    module _ {end : ℕ} (e : Some end ≡ run_found s at) where
      there : There s at end
      there = found-there s at e

      enough : two_at s at ≤ length (drop (at + 2) s)
      unfolding run_end
      enough = let x = there.is-end in let y = there.behind-run in rw (length-drop (at + 2) s) (omega arith)

      pub found-good : every good (run_at s at) ≡ true → some (map value (run_at s at), drop end s) ≡ (list_of c).get (drop at s)
      unfolding run_at part_of run_end
      found-good f =
          sym (counted there.behind-count ∙ (all_read (two_at s at) (drop (at + 2) s) enough f
          ∙ ap (λ u. some (map value (take (two_at s at) (drop (at + 2) s)), u)) (drop-drop (two_at s at) (at + 2) s ∙ ap (λ (i : ℕ). drop i s) (sym there.is-end))))

      pub found-bad : every good (run_at s at) ≡ false → none ≡ (list_of c).get (drop at s)
      unfolding run_at part_of
      found-bad f = sym (counted there.behind-count ∙ one-bad (two_at s at) (drop (at + 2) s) enough f)

    -- where a run that was read ends
    pub read-ends : {x : List A} {u : Bytes} → some (x, u) ≡ (list_of c).get (drop at s) → u ≡ drop (run_end s at) s
    unfolding run_found
    read-ends {x} {u} e = by (is_there s at)
        (λ h. let f = sym (chosen (Some (run_end s at)) None h) in
        by (every good (run_at s at))
        (λ g. ap rest (e ∙ sym (found-good f g)))
        (λ g. absurd (true≢false (ap is_some (e ∙ sym (found-bad f g))))))
        (λ h. absurd (true≢false (ap is_some (e ∙ sym (not_found (sym (passed_over _ _ h)))))))
      where
        rest : Option (List A × Bytes) → Bytes
        rest none = u
        rest (some r) = r.1

        is_some : Option (List A × Bytes) → Bool
        is_some none = false
        is_some (some r) = true

-- a run of bytes below a limit is what a list of such things is read from
module _ {A : Type 0} {c : Coder A} {value : ℕ → A} (limit : ℕ) (o : OneByte c (λ b. ltb b limit) value) (s : Bytes) (at : ℕ) where
  pub below-read : reads (map value (run_at s at)) s (below_found limit s at) ≡ (list_of c).get (drop at s)
  unfolding below_found reads
  below-read = by (every (λ b. ltb b limit) (run_at s at))
      (λ g. ap (reads (map value (run_at s at)) s) (chosen (run_found s at) None g) ∙ there (run_found s at) refl g)
      (λ g. ap (reads (map value (run_at s at)) s) (passed_over (run_found s at) None g) ∙ bad (run_found s at) refl g)
    where
      there : (r : Found ℕ) → r ≡ run_found s at → every (λ b. ltb b limit) (run_at s at) ≡ true → reads (map value (run_at s at)) s r ≡ (list_of c).get (drop at s)
      there (Some n) e g = found-good o s at e g
      there None e g = not_found o s at e

      bad : (r : Found ℕ) → r ≡ run_found s at → every (λ b. ltb b limit) (run_at s at) ≡ false → none ≡ (list_of c).get (drop at s)
      bad (Some n) e g = found-bad o s at e g
      bad None e g = not_found o s at e
