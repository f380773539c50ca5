-- The cases that document 01 marks P, all thirteen, as one statement over a list: each is its written source, carried out by the definitions that the meaning of a
-- library's lines uses.
use Prim.Native.Nat.{ℕ}
use mathlib.Core.Path.{◌≡◌, refl}
use mathlib.Core.Bool.{true}
use mathlib.Core.List.{List, [], ◌∷◌, map}
use lib.IntN.{ℤ, pos, negsuc}
use lib.ListN.{get_or}
use Rattle.text.specs.Bytes.{Bytes, bytes}
use Rattle.rules.specs.Evaluate.{Value, number, truth, string}
use Rattle.rules.specs.Decide.{Act, next, leave, jump, renew, keep, use', state, refuse}
use Rattle.rules.proofs.Computing.{does}

-- what a worked line gives: the value stored, the operand put out, or a refusal's number
pub data Gives : Type 0 where
  stores : Value → Gives
  puts : Bytes → Gives
  refuses : ℕ → Gives
  nothing : Gives

-- the stored value is that of the line's own symbol: place 1 is &N, 2 is &B, 3 is &C
abbrev given : ℕ → Act → Gives
given i next = nothing
given i leave = nothing
given i (jump t) = nothing
given i (renew n) = nothing
given i (keep st) = stores (get_or st.own i (string []))
given i (use' s) = nothing
given i (state n o a os) = puts a
given i (refuse e left) = refuses e

-- a worked line: its source, the value of &A and of &N, the place of the symbol that it sets, and what it gives
pub record Case : Type 0 where
  pub source : Bytes
  pub a : Bytes
  pub n : ℤ
  pub place : ℕ
  pub gives : Gives

abbrev line : Bytes → Bytes → ℕ → Gives → Case
line s a i g = record { source = s; a = a; n = pos 0; place = i; gives = g }

abbrev worked : List Case
worked =
    line (bytes "&N       SETA  2147483647") [] 1 (stores (number (pos 2147483647)))
    ∷ line (bytes "&N       SETA  2147483647+1") [] 1 (refuses 8)
    ∷ line (bytes "&N       SETA  7/0") [] 1 (stores (number (pos 0)))
    ∷ line (bytes "&N       SETA  (0-7)/2") [] 1 (stores (number (negsuc 2)))
    -- -3, in text `3`
    ∷ record { source = bytes "         DC    &N"; a = []; n = negsuc 2; place = 0; gives = puts (bytes "3") }
    ∷ line (bytes "&C       SETC  'ABCDE'(2,3)") [] 3 (stores (string (bytes "BCD")))
    ∷ line (bytes "&C       SETC  'ABCDE'(4,9)") [] 3 (stores (string (bytes "DE")))
    ∷ line (bytes "&C       SETC  'ABCDE'(6,1)") [] 3 (refuses 8)
    ∷ line (bytes "&C       SETC  'A'(1,0)") [] 3 (stores (string []))
    ∷ line (bytes "&N       SETA  N'&A") (bytes "(A,B,,D)") 1 (stores (number (pos 4)))
    ∷ line (bytes "&N       SETA  N'&A") (bytes "(A)(B)") 1 (stores (number (pos 1)))
    ∷ line (bytes "&N       SETA  N'&A") (bytes "()") 1 (stores (number (pos 1)))
    ∷ line (bytes "&B       SETB  ('9' LT '10')") [] 2 (stores (truth true))
    ∷ line (bytes "         DC    &A..B") (bytes "X") 0 (puts (bytes "X.B")) ∷ []

pub worked-lines : map (λ c. given c.place (does c.source c.a c.n)) worked ≡ map (λ c. c.gives) worked
unfolding does
worked-lines = refl
