-- Coders: how things are written as bytes and read back, put together from a few combinators.
use Rattle.std.specs.Prelude.{ℕ, zero, suc, ◌+◌, ◌*◌, ◌/◌, ◌%◌, List, [], ◌∷◌, ◌++◌, length}
use Rattle.std.proofs.Math.Option.{Option, none, some}
use Rattle.text.specs.Bytes.{Bytes}

-- what reading gives: a thing and the bytes after it, or nothing
abbrev pub Read : Type 0 → Type 0
Read A = Option (A × Bytes)

unfoldable pub after : {A B : Type 0} → Read A → (A → Bytes → Read B) → Read B
after none k = none
after (some r) k = k r.0 r.1

pub record Coder (A : Type 0) : Type 0 where
  pub put : A → Bytes
  pub get : Bytes → Read A

-- one byte
unfoldable pub get_byte : Bytes → Read ℕ
get_byte [] = none
get_byte (b ∷ s) = some (b, s)

unfoldable pub byte : Coder ℕ
byte = record { put = λ n. n ∷ []; get = get_byte }

-- a number in two bytes, the greater first
unfoldable pub two : Coder ℕ
two = record {
  put = λ n. n / 256 % 256 ∷ (n % 256 ∷ []);
  get = λ s. after (get_byte s) λ a t. after (get_byte t) λ b u. some (a * 256 + b, u);
}

-- a number in four bytes, the greatest first
unfoldable pub four : Coder ℕ
four = record {
  put = λ n. n / 16777216 % 256 ∷ (n / 65536 % 256 ∷ (n / 256 % 256 ∷ (n % 256 ∷ [])));
  get = λ s. after (two.get s) λ a t. after (two.get t) λ b u. some (a * 65536 + b, u);
}

-- one thing after another
unfoldable pub pair : {A B : Type 0} → Coder A → Coder B → Coder (A × B)
pair c d = record {
  put = λ p. c.put p.0 ++ d.put p.1;
  get = λ s. after (c.get s) λ a t. after (d.get t) λ b u. some ((a, b), u);
}

-- a thing by another that stands for it; not every one of these need stand for a thing
unfoldable pub made : {A : Type 0} → Option A → Bytes → Read A
made none s = none
made (some a) s = some (a, s)

unfoldable pub via : {A B : Type 0} → Coder B → (A → B) → (B → Option A) → Coder A
via c from to = record { put = λ a. c.put (from a); get = λ s. after (c.get s) λ b t. made (to b) t }

-- as many as a count before them says
unfoldable pub put_all : {A : Type 0} → Coder A → List A → Bytes
put_all c [] = []
put_all c (a ∷ l) = c.put a ++ put_all c l

unfoldable pub get_all : {A : Type 0} → Coder A → ℕ → Bytes → Read (List A)
get_all c zero s = some ([], s)
get_all c (suc n) s = after (c.get s) λ a t. after (get_all c n t) λ l u. some (a ∷ l, u)

unfoldable pub list_of : {A : Type 0} → Coder A → Coder (List A)
list_of c = record {
  put = λ l. two.put (length l) ++ put_all c l;
  get = λ s. after (two.get s) λ n t. get_all c n t;
}
