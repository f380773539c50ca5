-- What the answers say of a call: its keywords are those given by the parts behind its positionals, or from where these start, and whether the macro knows them. Assumes nothing.
use Prim.Native.Nat.{ℕ}
use mathlib.Core.Path.{◌≡◌, ap, sym}
use mathlib.Core.List.{map}
use lib.ListN.{drop}
use Rattle.text.specs.Bytes.{Bytes}
use Rattle.rules.specs.Machine.{Header, Call, knows_keywords}
use Rattle.parts.specs.declared.Parts.{Parts}
use Rattle.parts.specs.Parts.{parts_from, parts_of, parts_left}
use Rattle.call_operands.specs.Calling.{keyword_in}
use Rattle.call_keywords.specs.Defaults.{keywords_at, given_by, given_from, are_known}

-- `call_operands::divide` answered n positionals, and `given` are the parts behind the first n
pub given_is : (s : Bytes) (n : ℕ) (given : Parts) → parts_left given ≡ drop n (parts_of s) → given_by given ≡ map keyword_in (drop n (parts_of s))
given_is s n given e = ap (map keyword_in) e

-- the macro's keywords stand at `at`, and the call's are those of `given`
pub knows-is : (deck : Bytes) (at count : ℕ) (given : Parts) (h : Header) (c : Call) → h.keywords ≡ keywords_at deck at count → c.operands.keywords ≡ given_by given
    → are_known (keywords_at deck at count) (given_by given) ≡ knows_keywords h c
unfolding are_known knows_keywords
knows-is deck at count given h c e f = λ i. are_known (sym e i) (sym f i)

-- ---- by place

-- the part of number n starts at `from`
pub placed-is : (s : Bytes) (n from : ℕ) → parts_from s from ≡ drop n (parts_of s) → given_from s from ≡ map keyword_in (drop n (parts_of s))
unfolding given_from
placed-is s n from e = ap (map keyword_in) e

-- the call's keywords are given from `from` on
pub knows-placed : (deck s : Bytes) (at count from : ℕ) (h : Header) (c : Call) → h.keywords ≡ keywords_at deck at count → c.operands.keywords ≡ given_from s from
    → are_known (keywords_at deck at count) (given_from s from) ≡ knows_keywords h c
unfolding are_known knows_keywords
knows-placed deck s at count from h c e f = λ i. are_known (sym e i) (sym f i)
