-- Where a text is cut at a byte outside quotes and parentheses, and its parts between commas, by bytes. That these are 01's parts is proofs/. Assumes nothing.
use Rattle.std.specs.Prelude.{ℕ, zero, suc, Bool, true, ◌&&◌, ◌||◌, not, List, [], ◌∷◌, Option, Some, None, eqb, leb, ltb, length, take, drop}
use Rattle.std.specs.Borrow.{Bor}
use Rattle.text.specs.Bytes.{Bytes}
use Rattle.rules.specs.Choice.{choose, passed}
use Rattle.rules.specs.Lexemes.{comma, field_start, marked, outside, enters, is_bare}
use Rattle.rules.specs.Fields.{is_empty}
use Rattle.fields.specs.declared.Seen.{Seen as State}
use Rattle.fields.specs.Seen.{marks}
use Rattle.parts.specs.declared.Parts.{Parts}

-- the byte d, which `next` follows, is the text byte c outside quotes and parentheses; an attribute mark is no text byte, and reads as 0
unfoldable pub bare_here : ℕ → State → ℕ → ℕ → Bool
bare_here c s d next = (marks s d next && eqb c 0 || not (marks s d next) && eqb d c) && not s.quoted && eqb s.depth 0

-- how many bytes stand before the first byte c outside quotes and parentheses; all of them where there is none
unfoldable pub bare_at : ℕ → Bytes → ℕ
bare_at c s = passed (is_bare c) enters outside (marked {R = Bytes} true field_start s)

-- the parts of a text between its bare commas, at most n commas told
unfoldable pub parts_within : ℕ → Bytes → List Bytes
parts_within zero s = s ∷ []
parts_within (suc n) s =
    let e = bare_at comma s in
    choose (ltb e (length s)) (take e s ∷ parts_within n (drop (suc e) s)) (s ∷ [])

-- the parts from a place on at which one starts; none starts behind the text's end
unfoldable pub parts_from : Bytes → ℕ → List Bytes
parts_from s at = choose (leb at (length s)) (parts_within (length s) (drop at s)) []

-- "An empty field has none."
unfoldable pub parts_of : Bytes → List Bytes
parts_of s = choose (is_empty s) [] (parts_from s 0)

-- what is left of an operand that is told part by part: nothing, or the text from the next part's start on
abbrev pub parts_of_rest : Option (Bor Bytes) → List Bytes
parts_of_rest None = []
parts_of_rest (Some s) = parts_from s.now 0

-- the parts that are still to come
abbrev pub parts_left : Parts → List Bytes
parts_left parts = parts_of_rest parts.rest
