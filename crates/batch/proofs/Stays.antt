-- A case that is found stays where it is when more input is behind it: what a window of the input shows is the input's. Assumes nothing.
use Prim.Native.Nat.{ℕ, suc, ◌+◌, ◌-◌, ◌≤◌, ◌<◌}
use native.Mathlib.Omega.{arith}
use mathlib.Core.Path.{◌≡◌, ap, sym, ◌∙◌, subst}
use mathlib.Core.Bool.{Bool, true}
use mathlib.Core.List.{[], ◌∷◌, ◌++◌}
use lib.Dec.{eqb, leb, ltb}
use lib.ListN.{length, take, drop, get_or, length-append, length-drop, length-take, get_or-append}
use lib.Seq.{take-append-le, drop-append-le}
use borrow.Author.Tests.{eqb-true, eqb-false, ltb-false, le-ltb, leb-false}
use Rattle.text.specs.Bytes.{Bytes, bytes, same}
use Rattle.text.specs.Characters.{digit}
use Rattle.text.proofs.Same.{same-is}
use Rattle.rules.specs.Choice.{run}
use Rattle.rules.specs.Values.{spelt}
use Rattle.rules.proofs.Choices.{by, chosen, passed_over, either}
use Rattle.batch.specs.declared.Number.{Number}
use Rattle.std.specs.Prelude.{Option, Some, None}
use Rattle.batch.specs.declared.Pair.{Pair}
use Rattle.batch.specs.declared.Case.{Case}
use Rattle.batch.specs.declared.Case.TheVariants.{Found, End, Broken}
use Rattle.rules.specs.Lexemes.{space}
use Rattle.rules.specs.Fields.{newline}
use Rattle.batch.specs.Format.{is_printable, id_end, number_limit, ended_at, digits_of, number_at, second_to, then_second, pair_at, laid_out, with_rooms, with_sizes, headed, case_at}
use Rattle.batch.proofs.Numbers.{read-inside}
use Rattle.batch.proofs.Cases.{has-head}

-- a run that ends before the text's end is as long with more behind it
run-stays : (test : ℕ → Bool) (s more : Bytes) → run test s < length s → run test (s ++ more) ≡ run test s
unfolding run
run-stays test [] more h = absurd (omega arith)
run-stays test (c ∷ s) more h =
    by (test c)
    (λ e.
    let k = chosen (suc (run test s)) 0 e in
    let l : run test s < length s = omega (arith, h, k) in
    chosen _ _ e ∙ (ap suc (run-stays test s more l) ∙ sym k))
    (λ e. passed_over _ _ e ∙ sym (passed_over _ _ e))

module _ (input more : Bytes) where
  abbrev longer : Bytes
  longer = input ++ more

  -- where a run ends in the input it ends with more input too
  run-there : (test : ℕ → Bool) (at : ℕ) → at + run test (drop at input) < length input → run test (drop at longer) ≡ run test (drop at input)
  run-there test at h =
      let l : run test (drop at input) < length (drop at input) = rw length-drop (omega (arith, h)) in
      ap (run test) (drop-append-le at input more (omega (arith, h))) ∙ run-stays test (drop at input) more l

  read-there : (i : ℕ) → i < length input → get_or longer i 0 ≡ get_or input i 0
  read-there i h = get_or-append input more 0 i h

  abbrev StaysNumber : Option Number → Option Number → Type 0
  StaysNumber (Some p) m = m ≡ Some p
  StaysNumber None m = Unit

  number_same : (stop at : ℕ) → at + run digit (drop at input) < length input → number_at stop longer at ≡ ended_at stop longer at (at + run digit (drop at input)) (spelt 0 (digits_of (drop at input)))
  unfolding number_at
  number_same stop at h =
      let s = drop at input in
      let k = run digit s in
      let few : k ≤ length s = rw length-drop (omega (arith, h)) in
      let begins : digits_of (drop at longer) ≡ digits_of s =
      ap (λ (n : ℕ). take n (drop at longer)) (run-there digit at h) ∙ (ap (take k) (drop-append-le at input more (omega (arith, h))) ∙ take-append-le k s more few) in
      ap (λ (n : ℕ). ended_at stop longer at (at + n) (spelt 0 (digits_of (drop at longer)))) (run-there digit at h) ∙ ap (λ (t : Bytes). ended_at stop longer at (at + k) (spelt 0 t)) begins

  number-stays : (stop at : ℕ) → 0 < stop → StaysNumber (number_at stop input at) (number_at stop longer at)
  unfolding number_at ended_at
  number-stays stop at p =
      let end = at + run digit (drop at input) in
      let value = spelt 0 (digits_of (drop at input)) in
      let m = number_at stop longer at in
      either (λ r. StaysNumber r m) (ltb number_limit value) (λ e. tt)
      (λ few.
      either (λ r. StaysNumber r m) (eqb end at) (λ e. tt)
      (λ some.
      either (λ r. StaysNumber r m) (eqb (get_or input end 0) stop)
      (λ stops.
      let inside = read-inside input end (sym (eqb-true (get_or input end 0) stop stops)) p in
      number_same stop at inside ∙ (passed_over _ _ few ∙ (passed_over _ _ some ∙ chosen _ _ (ap (λ (c : ℕ). eqb c stop) (read-there end inside) ∙ stops))))
      (λ e. tt)))

  abbrev StaysPair : Option Pair → Option Pair → Type 0
  StaysPair (Some r) p = p ≡ Some r
  StaysPair None p = Unit

  second-stays : (first : ℕ) (m n : Option Number) → StaysNumber m n → StaysPair (second_to first m) (second_to first n)
  unfolding second_to
  second-stays first (Some p) n e = ap (second_to first) e
  second-stays first None n e = tt

  then-stays : (stop : ℕ) → 0 < stop → (m n : Option Number) → StaysNumber m n → StaysPair (then_second stop input m) (then_second stop longer n)
  unfolding then_second
  then-stays stop p (Some m) n e =
      subst (λ (k : Option Number). StaysPair (second_to m.value (number_at stop input m.next)) (then_second stop longer k)) (sym e) (second-stays m.value (number_at stop input m.next) (number_at stop longer m.next) (number-stays stop m.next p))
  then-stays stop p None n e = tt

  pair-stays : (stop at : ℕ) → 0 < stop → StaysPair (pair_at stop input at) (pair_at stop longer at)
  unfolding pair_at
  pair-stays stop at p = then-stays stop p (number_at space input at) (number_at space longer at) (number-stays space at (omega arith))

  abbrev pub Stays : Case → Case → Type 0
  Stays (Found id blank library program stop next output workspace) r = r ≡ Found id blank library program stop next output workspace
  Stays End r = Unit
  Stays Broken r = Unit

  module _ (id blank : ℕ) where
    laid-stays : (start library program output workspace : ℕ) → Stays (laid_out input id blank start library program output workspace) (laid_out longer id blank start library program output workspace)
    unfolding laid_out
    laid-stays start library program output workspace =
        let r = laid_out longer id blank start library program output workspace in
        let stop = start + library + program in
        let size = length-append input more in
        either (λ q. Stays q r) (ltb (length input - start) library) (λ e. tt)
        (λ e.
        either (λ q. Stays q r) (ltb (length input - (start + library)) program) (λ e. tt)
        (λ f.
        either (λ q. Stays q r) (eqb (get_or input stop 0) newline)
        (λ g.
        let has = ltb-false (length input - start) library e in
        let too = ltb-false (length input - (start + library)) program f in
        let inside = read-inside input stop (sym (eqb-true (get_or input stop 0) newline g)) (omega arith) in
        let has' : library ≤ length longer - start = omega (arith, has, size) in
        let too' : program ≤ length longer - (start + library) = omega (arith, too, size) in
        passed_over _ _ (le-ltb _ _ has') ∙ (passed_over _ _ (le-ltb _ _ too') ∙ chosen _ _ (ap (λ (c : ℕ). eqb c newline) (read-there stop inside) ∙ g)))
        (λ e. tt)))

    rooms-stay : (library program : ℕ) (p q : Option Pair) → StaysPair p q → Stays (with_rooms input id blank library program p) (with_rooms longer id blank library program q)
    unfolding with_rooms
    rooms-stay library program (Some r) q e =
        subst (λ (k : Option Pair). Stays (laid_out input id blank r.next library program r.first r.second) (with_rooms longer id blank library program k)) (sym e) (laid-stays r.next library program r.first r.second)
    rooms-stay library program None q e = tt

    sizes-stay : (p q : Option Pair) → StaysPair p q → Stays (with_sizes input id blank p) (with_sizes longer id blank q)
    unfolding with_sizes
    sizes-stay (Some r) q e =
        subst (λ (k : Option Pair). Stays (with_rooms input id blank r.first r.second (pair_at newline input r.next)) (with_sizes longer id blank k)) (sym e)
        (rooms-stay r.first r.second (pair_at newline input r.next) (pair_at newline longer r.next) (pair-stays newline r.next (omega arith)))
    sizes-stay None q e = tt

    headed-stays : Stays (headed input id blank) (headed longer id blank)
    unfolding headed
    headed-stays = sizes-stay (pair_at space input (blank + 1)) (pair_at space longer (blank + 1)) (pair-stays space (blank + 1) (omega arith))

  word-there : (at : ℕ) → same (take 5 (drop at input)) (bytes "CASE ") ≡ true → same (take 5 (drop at longer)) (bytes "CASE ") ≡ true
  word-there at w =
      let s = drop at input in
      let five : length (take 5 s) ≡ 5 = ap length (same-is (take 5 s) (bytes "CASE ") w) in
      let least = sym (length-take 5 s) ∙ five in
      let rest = length-drop at input in
      let has : 5 ≤ length s = omega (arith, least) in
      let here : at ≤ length input = omega (arith, has, rest) in
      ap (λ (t : Bytes). same (take 5 t) (bytes "CASE ")) (drop-append-le at input more here) ∙ (ap (λ (t : Bytes). same t (bytes "CASE ")) (take-append-le 5 s more has) ∙ w)

  case_stays : (at : ℕ) → Stays (case_at input at) (case_at longer at)
  unfolding case_at id_end
  case_stays at =
      let id = at + 5 in
      let blank = at + 5 + run is_printable (drop (at + 5) input) in
      let r = case_at longer at in
      let size = length-append input more in
      either (λ q. Stays q r) (leb (length input) at) (λ e. tt)
      (λ e.
      either (λ q. Stays q r) (same (take 5 (drop at input)) (bytes "CASE "))
      (λ w.
      either (λ q. Stays q r) (eqb blank id) (λ e. tt)
      (λ d.
      either (λ q. Stays q r) (eqb (get_or input blank 0) space)
      (λ g.
      let before = leb-false (length input) at e in
      let in-longer : at < length longer = omega (arith, before, size) in
      let inside = read-inside input blank (sym (eqb-true (get_or input blank 0) space g)) (omega arith) in
      let there : blank ≡ id_end longer id = ap (λ (n : ℕ). at + 5 + n) (sym (run-there is_printable id inside)) in
      let same_byte : get_or longer blank 0 ≡ space = read-there blank inside ∙ eqb-true (get_or input blank 0) space g in
      subst (Stays (headed input id blank)) (sym (has-head longer at in-longer (word-there at w) there (eqb-false blank id d) same_byte)) (headed-stays id blank))
      (λ e. tt)))
      (λ e. tt))

  pub found-stays : (at : ℕ) {id blank library program stop next output workspace : ℕ} → case_at input at ≡ Found id blank library program stop next output workspace → case_at (input ++ more) at ≡ Found id blank library program stop next output workspace
  found-stays at e = subst (λ (q : Case). Stays q (case_at longer at)) e (case_stays at)
