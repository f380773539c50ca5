-- A field as code sees it: one byte for each lexeme, as in a deck, and a table of the kinds of its slots. One abstraction, `toks_at`, says which lexemes a place has
-- from it on; everything else is the rules' own grammar.
use Rattle.std.specs.Prelude.{ℕ, ◌-◌, List, map, eqb, ltb, length, drop, get_or, Result, Ok, Err}
use Rattle.text.specs.Bytes.{Bytes}
use Rattle.rules.specs.Choice.{choose}
use Rattle.rules.specs.Limits.{ill_formed, over_limit}
use Rattle.rules.specs.Lexemes.{Lex, byte, mark, ref, lone}
use Rattle.rules.specs.Statement.{set_a, set_b, set_c}
use Rattle.rules.specs.Grammar.{Kind, parameter, symbol, syslist, sysndx, sysect, unknown, Got, got, refused}
use Rattle.rules.specs.Form.{Nothing}
use Rattle.grammar.specs.declared.Fault.{Fault}
use Rattle.grammar.specs.declared.Fault.TheVariants.{Broken, Deep}

-- a kind as a number: 0 parameter, 1 SETA, 2 SETB, 3 SETC, any other none
unfoldable pub kind_of : ℕ → Kind
kind_of n = choose (eqb n 0) parameter (choose (eqb n 1) (symbol set_a) (choose (eqb n 2) (symbol set_b) (choose (eqb n 3) (symbol set_c) unknown)))

-- the lexeme of a byte, where `kinds` has the kinds of the slots 128 to 223: own slots first, then globals; behind its end there is none
unfoldable pub lex_of : Bytes → ℕ → Lex Kind
lex_of kinds b =
    choose (ltb b 127) (byte b)
    (choose (eqb b 127) mark
    (choose (ltb b 224) (ref (kind_of (get_or kinds (b - 128) 4)))
    (choose (eqb b 224) (ref syslist) (choose (eqb b 225) (ref sysndx) (choose (eqb b 226) (ref sysect) lone)))))

-- the lexemes from a place on
unfoldable pub toks_at : Bytes → Bytes → ℕ → List (Lex Kind)
toks_at kinds code at = map (lex_of kinds) (drop at code)

-- what a function answers: the place that reading comes to, or a fault and its place
abbrev pub Formed : Type 0
Formed = Result ℕ Fault

-- what that says: a place stands for the lexemes from there on
unfoldable pub tells : (ℕ → List (Lex Kind)) → Formed → Got Nothing Kind
tells from (Ok n) = got tt (from n)
tells from (Err (Broken n)) = refused ill_formed (length (from n))
tells from (Err (Deep n)) = refused over_limit (length (from n))
