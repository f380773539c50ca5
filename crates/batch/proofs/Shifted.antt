-- A case stands in an input where it stands in the input without its first bytes, so many places further on. Assumes nothing.
use Rattle.std.proofs.Common.{◌≡◌, ℕ, ◌+◌, ◌-◌, ◌≤◌, leb, ltb, eqb, length, take, drop, get_or, refl, ap, sym, ◌∙◌, arith, add_assoc, length-drop, drop-drop, get_or-drop, leb-true, leb-false, le-leb, eqb-true, eq-eqb, ne_eqb}
use borrow.Author.Tests.{eqb-false}
use Rattle.text.specs.Bytes.{Bytes, bytes, same}
use Rattle.text.specs.Characters.{digit}
use Rattle.rules.specs.Choice.{choose, run}
use Rattle.rules.specs.Values.{spelt}
use Rattle.rules.specs.Lexemes.{space}
use Rattle.rules.specs.Fields.{newline}
use Rattle.rules.proofs.Choices.{by, into}
use Rattle.batch.specs.declared.Number.{Number}
use Rattle.std.specs.Prelude.{Option, Some, None}
use Rattle.batch.specs.declared.Pair.{Pair}
use Rattle.batch.specs.declared.Case.{Case}
use Rattle.batch.specs.declared.Case.TheVariants.{Found, End, Broken}
use Rattle.batch.specs.Format.{is_printable, id_end, number_limit, ended_at, digits_of, number_at, second_to, then_second, pair_at, laid_out, with_rooms, with_sizes, headed, case_at}

leb-same : (a b c d : ℕ) → (a ≤ b → c ≤ d) → (c ≤ d → a ≤ b) → leb a b ≡ leb c d
leb-same a b c d f g =
    by (leb a b) (λ e. e ∙ sym (le-leb c d (f (leb-true a b e))))
    (λ e. e ∙ by (leb c d) (λ h. let no = g (leb-true c d h) in let yes = leb-false a b e in absurd (omega (arith, no, yes))) (λ h. sym h))

eqb-shift : (k x y : ℕ) → eqb (k + x) (k + y) ≡ eqb x y
eqb-shift k x y =
    by (eqb x y) (λ e. let q = eqb-true x y e in eq-eqb (k + x) (k + y) (omega (arith, q)) ∙ sym e)
    (λ e. let q = eqb-false x y e in ne_eqb (k + x) (k + y) (λ h. q (omega (arith, h))) ∙ sym e)

abbrev pub moved : ℕ → Case → Case
moved k (Found id blank library program stop next output workspace) = Found (k + id) (k + blank) (k + library) (k + program) (k + stop) (k + next) output workspace
moved k End = End
moved k Broken = Broken

moved_number : ℕ → Option Number → Option Number
moved_number k (Some p) = Some (record { value = p.value; next = k + p.next })
moved_number k None = None

moved_pair : ℕ → Option Pair → Option Pair
moved_pair k (Some r) = Some (record { first = r.first; second = r.second; next = k + r.next })
moved_pair k None = None

module _ (k : ℕ) (input : Bytes) where
  abbrev later : Bytes
  later = drop k input

  byte_there : (i : ℕ) → get_or input (k + i) 0 ≡ get_or later i 0
  byte_there i = sym (get_or-drop k input i 0)

  rest-there : (i : ℕ) → drop (k + i) input ≡ drop i later
  rest-there i = sym (drop-drop i k input)

  ended-shift : (stop at end value : ℕ) → ended_at stop input (k + at) (k + end) value ≡ moved_number k (ended_at stop later at end value)
  unfolding ended_at moved_number
  ended-shift stop at end value =
      let t = ltb number_limit value in
      let u = eqb end at in
      let v = eqb (get_or later end 0) stop in
      let tests : choose t None (choose (eqb (k + end) (k + at)) None (choose (eqb (get_or input (k + end) 0) stop) (Some (record { value = value; next = (k + end + 1) })) None)) ≡ choose t None (choose u None (choose v (Some (record { value = value; next = (k + (end + 1)) })) None)) =
      λ i. choose t None (choose (eqb-shift k end at i) None (choose (eqb (byte_there end i) stop) (Some (record { value = value; next = (add_assoc k end 1 i) })) None)) in
      tests ∙ sym (into (moved_number k) t None (choose u None (choose v (Some (record { value = value; next = (end + 1) })) None))
      ∙ ap (choose t None) (into (moved_number k) u None (choose v (Some (record { value = value; next = (end + 1) })) None) ∙ ap (choose u None) (into (moved_number k) v (Some (record { value = value; next = (end + 1) })) None)))

  number-shift : (stop at : ℕ) → number_at stop input (k + at) ≡ moved_number k (number_at stop later at)
  unfolding number_at
  number-shift stop at =
      ap (λ (s : Bytes). ended_at stop input (k + at) (k + at + run digit s) (spelt 0 (digits_of s))) (rest-there at)
      ∙ (ap (λ (n : ℕ). ended_at stop input (k + at) n (spelt 0 (digits_of (drop at later)))) (add_assoc k at (run digit (drop at later)))
      ∙ ended-shift stop at (at + run digit (drop at later)) (spelt 0 (digits_of (drop at later))))

  second-shift : (first : ℕ) (m : Option Number) → second_to first (moved_number k m) ≡ moved_pair k (second_to first m)
  unfolding second_to moved_number moved_pair
  second-shift first (Some p) = refl
  second-shift first None = refl

  then-shift : (stop : ℕ) (m : Option Number) → then_second stop input (moved_number k m) ≡ moved_pair k (then_second stop later m)
  unfolding then_second moved_number moved_pair
  then-shift stop (Some p) = ap (second_to p.value) (number-shift stop p.next) ∙ second-shift p.value (number_at stop later p.next)
  then-shift stop None = refl

  pair-shift : (stop at : ℕ) → pair_at stop input (k + at) ≡ moved_pair k (pair_at stop later at)
  unfolding pair_at
  pair-shift stop at = ap (then_second stop input) (number-shift space at) ∙ then-shift stop (number_at space later at)

  module _ (id blank : ℕ) where
    laid-shift : (start library program output workspace : ℕ) → laid_out input (k + id) (k + blank) (k + start) library program output workspace ≡ moved k (laid_out later id blank start library program output workspace)
    unfolding laid_out
    laid-shift start library program output workspace =
        let middle = start + library in
        let stop = middle + program in
        let size = length-drop k input in
        let m : k + start + library ≡ k + middle = add_assoc k start library in
        let s : k + start + library + program ≡ k + stop = omega arith in
        let n : k + start + library + program + 1 ≡ k + (stop + 1) = omega arith in
        let a : length input - (k + start) ≡ length later - start = omega (arith, size) in
        let b : length input - (k + start + library) ≡ length later - middle = omega (arith, size) in
        let byte : get_or input (k + start + library + program) 0 ≡ get_or later stop 0 = ap (λ (i : ℕ). get_or input i 0) s ∙ byte_there stop in
        let t = ltb (length later - start) library in
        let u = ltb (length later - middle) program in
        let v = eqb (get_or later stop 0) newline in
        let there = Found id blank start middle stop (stop + 1) output workspace in
        let tests : choose (ltb (length input - (k + start)) library) Broken (choose (ltb (length input - (k + start + library)) program) Broken (choose (eqb (get_or input (k + start + library + program) 0) newline) (Found (k + id) (k + blank) (k + start) (k + start + library) (k + start + library + program) (k + start + library + program + 1) output workspace) Broken))
        ≡ choose t Broken (choose u Broken (choose v (moved k there) Broken)) =
        λ i. choose (ltb (a i) library) Broken (choose (ltb (b i) program) Broken (choose (eqb (byte i) newline) (Found (k + id) (k + blank) (k + start) (m i) (s i) (n i) output workspace) Broken)) in
        tests ∙ sym (into (moved k) t Broken (choose u Broken (choose v there Broken))
        ∙ ap (choose t Broken) (into (moved k) u Broken (choose v there Broken) ∙ ap (choose u Broken) (into (moved k) v there Broken)))

    rooms-shift : (library program : ℕ) (p : Option Pair) → with_rooms input (k + id) (k + blank) library program (moved_pair k p) ≡ moved k (with_rooms later id blank library program p)
    unfolding with_rooms moved_pair
    rooms-shift library program (Some r) = laid-shift r.next library program r.first r.second
    rooms-shift library program None = refl

    sizes-shift : (p : Option Pair) → with_sizes input (k + id) (k + blank) (moved_pair k p) ≡ moved k (with_sizes later id blank p)
    unfolding with_sizes moved_pair
    sizes-shift (Some r) = ap (with_rooms input (k + id) (k + blank) r.first r.second) (pair-shift newline r.next) ∙ rooms-shift r.first r.second (pair_at newline later r.next)
    sizes-shift None = refl

    headed-shift : headed input (k + id) (k + blank) ≡ moved k (headed later id blank)
    unfolding headed
    headed-shift =
        ap (λ (n : ℕ). with_sizes input (k + id) (k + blank) (pair_at space input n)) (add_assoc k blank 1)
        ∙ (ap (with_sizes input (k + id) (k + blank)) (pair-shift space (blank + 1)) ∙ sizes-shift (pair_at space later (blank + 1)))

  pub case-shift : (at : ℕ) → case_at input (k + at) ≡ moved k (case_at later at)
  unfolding case_at id_end
  case-shift at =
      let size = length-drop k input in
      let id = at + 5 in
      let r = run is_printable (drop id later) in
      let blank = id + r in
      let word = bytes "CASE " in
      let d : k + at + 5 ≡ k + id = add_assoc k at 5 in
      let past : leb (length input) (k + at) ≡ leb (length later) at = leb-same (length input) (k + at) (length later) at (λ h. omega (arith, h, size)) (λ h. omega (arith, h, size)) in
      let t = leb (length later) at in
      let u = same (take 5 (drop at later)) word in
      let v = eqb blank id in
      let w = eqb (get_or later blank 0) space in
      let inner = choose v Broken (choose w (headed later id blank) Broken) in
      let named : (j : ℕ) → j ≡ k + id → choose (eqb (j + run is_printable (drop j input)) j) Broken (choose (eqb (get_or input (j + run is_printable (drop j input)) 0) space) (headed input j (j + run is_printable (drop j input))) Broken) ≡ moved k inner =
      λ j e.
      let b : j + run is_printable (drop j input) ≡ k + blank = (λ i. e i + run is_printable (drop (e i) input)) ∙ (ap (λ (s : Bytes). k + id + run is_printable s) (rest-there id) ∙ add_assoc k id r) in
      (λ i. choose (eqb (b i) (e i)) Broken (choose (eqb (get_or input (b i) 0) space) (headed input (e i) (b i)) Broken))
      ∙ ((λ i. choose (eqb-shift k blank id i) Broken (choose (eqb (byte_there blank i) space) (headed-shift id blank i) Broken))
      ∙ sym (into (moved k) v Broken (choose w (headed later id blank) Broken) ∙ ap (choose v Broken) (into (moved k) w (headed later id blank) Broken))) in
      (λ i. choose (past i) End (choose (same (take 5 (rest-there at i)) word) (named (k + at + 5) d i) Broken))
      ∙ sym (into (moved k) t End (choose u inner Broken) ∙ ap (choose t End) (into (moved k) u inner Broken))

-- ---- and back

back : ℕ → Case → Case
back k (Found id blank library program stop next output workspace) = Found (id - k) (blank - k) (library - k) (program - k) (stop - k) (next - k) output workspace
back k End = End
back k Broken = Broken

back-moved : (k : ℕ) (c : Case) → back k (moved k c) ≡ c
unfolding back
back-moved k (Found id blank library program stop next output workspace) =
    let c : (n : ℕ) → (k + n) - k ≡ n = λ n. omega arith in
    λ i. Found (c id i) (c blank i) (c library i) (c program i) (c stop i) (c next i) output workspace
back-moved k End = refl
back-moved k Broken = refl

-- where it is found further on, it is found without the first bytes
pub case-back : (k : ℕ) (input : Bytes) {id blank library program stop next output workspace : ℕ} → case_at input k ≡ Found id blank library program stop next output workspace
    → case_at (drop k input) 0 ≡ Found (id - k) (blank - k) (library - k) (program - k) (stop - k) (next - k) output workspace
unfolding back
case-back k input e =
    let here : k + 0 ≡ k = omega arith in
    sym (back-moved k (case_at (drop k input) 0)) ∙ ap (back k) (sym (case-shift k input 0) ∙ (ap (case_at input) here ∙ e))

-- and the other way round
pub case-on : (k : ℕ) (input : Bytes) {id blank library program stop next output workspace : ℕ} → case_at (drop k input) 0 ≡ Found id blank library program stop next output workspace
    → case_at input k ≡ Found (k + id) (k + blank) (k + library) (k + program) (k + stop) (k + next) output workspace
case-on k input e =
    let here : k ≡ k + 0 = omega arith in
    ap (case_at input) here ∙ (case-shift k input 0 ∙ ap (moved k) e)
