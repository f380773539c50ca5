-- Two outcomes that meet the contract of translation are equal. Assumes nothing.
use Prim.Native.Nat.{ℕ}
use mathlib.Core.Path.{◌≡◌, ap, sym, ◌∙◌}
use mathlib.Core.List.{[], ◌∷◌}
use Rattle.text.specs.Bytes.{Bytes}
use Rattle.std.specs.Prelude.{Result, Ok, Err}
use Rattle.refusals.specs.declared.Refused.{Refused}
use Rattle.refusals.specs.Numbers.{number_of}
use Rattle.refusals.proofs.Apart.{numbers_apart, numbered-from-1}
use Rattle.translating.specs.Answers.{Listed, listing, listed, Right}

number_in : Listed → ℕ
number_in (listing n v) = n

value_in : Listed → ℕ
value_in (listing n []) = 0
value_in (listing n (v ∷ vs)) = v

same_answer : (r q : Result ℕ Refused) → listed r ≡ listed q → r ≡ q
unfolding listed number_in value_in
same_answer (Ok n) (Ok m) e = ap Ok (ap value_in e)
same_answer (Ok n) (Err f) e = let z : 0 ≡ number_of f.fault = ap number_in e in absurd (numbered-from-1 f.fault (sym z))
same_answer (Err f) (Ok m) e = let z : number_of f.fault ≡ 0 = ap number_in e in absurd (numbered-from-1 f.fault z)
same_answer (Err f) (Err g) e = λ i. Err (record { fault = numbers_apart f.fault g.fault (ap number_in e) i; line = ap value_in e i })

pub only : (library before : Bytes) (r q : Result ℕ Refused) (a b : Bytes) → Right library before r a → Right library before q b → (r ≡ q) × (a ≡ b)
only library before r q a b x y = (same_answer r q (x.answer ∙ sym y.answer), x.buffer ∙ sym y.buffer)
