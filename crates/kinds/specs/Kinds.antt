-- The code's words for what the rules tell apart. Assumes nothing.
use Rattle.std.specs.Prelude.{Bool, Option, Some, None}
use Rattle.rules.specs.Statement.{Statement, macro, mend, mexit, local, global, set, aif, ago, anop, actr, model, Does as Doing, passes, ends, exits, text, models, sets, branches_if, branches, counts, Set as Of, set_a, set_b, set_c}
use Rattle.rules.specs.Grammar.{Kind as Meant, parameter, symbol, syslist, sysndx, sysect, unknown, in_text, as_term, after_k, after_n, after_t}
use Rattle.kinds.specs.declared.Set.{Set as Kept}
use Rattle.kinds.specs.declared.Set.TheVariants.{A, B, C}
use Rattle.kinds.specs.declared.Kind.{Kind}
use Rattle.kinds.specs.declared.Kind.TheVariants.{Parameter, Symbol, List, Index, Section, Unknown}
use Rattle.kinds.specs.declared.Stand.{Stand}
use Rattle.kinds.specs.declared.Stand.TheVariants.{Term, AfterK, AfterN, AfterT, Text as InText}
use Rattle.kinds.specs.declared.Word.{Word}
use Rattle.kinds.specs.declared.Word.TheVariants.{Macro, Mend, Mexit, Lcl, Gbl, Set, Aif, Ago, Anop, Actr}
use Rattle.kinds.specs.declared.Does.{Does}
use Rattle.kinds.specs.declared.Does.TheVariants.{Passes, Ends, Exits, Text, Models, BranchesIf, Branches, Counts, Sets}

-- the rules' kind of SET symbols, and the code's
abbrev pub set_of : Kept → Of
set_of A = set_a
set_of B = set_b
set_of C = set_c

abbrev pub set_for : Of → Kept
set_for set_a = A
set_for set_b = B
set_for set_c = C

-- the rules' kind of a variable symbol, and the code's
abbrev pub kind_of : Kind → Meant
kind_of Parameter = parameter
kind_of (Symbol k) = symbol (set_of k)
kind_of List = syslist
kind_of Index = sysndx
kind_of Section = sysect
kind_of Unknown = unknown

abbrev pub kind_for : Meant → Kind
kind_for parameter = Parameter
kind_for (symbol k) = Symbol (set_for k)
kind_for syslist = List
kind_for sysndx = Index
kind_for sysect = Section
kind_for unknown = Unknown

-- which references may stand there: by their kind, and whether they are bare
abbrev pub table_of : Stand → Meant → Bool → Bool
table_of Term = as_term
table_of AfterK = after_k
table_of AfterN = after_n
table_of AfterT = after_t
table_of InText = in_text

-- the statement whose operation is this word; a model statement where it is none
abbrev pub statement_by : Option Word → Statement
statement_by (Some Macro) = macro
statement_by (Some Mend) = mend
statement_by (Some Mexit) = mexit
statement_by (Some (Lcl k)) = local (set_of k)
statement_by (Some (Gbl k)) = global (set_of k)
statement_by (Some (Set k)) = set (set_of k)
statement_by (Some Aif) = aif
statement_by (Some Ago) = ago
statement_by (Some Anop) = anop
statement_by (Some Actr) = actr
statement_by None = model

-- what a line does, without the text or the target that goes with it
abbrev pub does_for : {L : Type 0} → Doing L → Does
does_for passes = Passes
does_for ends = Ends
does_for exits = Exits
does_for (text s) = Text
does_for models = Models
does_for (sets k) = Sets (set_for k)
does_for (branches_if t) = BranchesIf
does_for (branches t) = Branches
does_for counts = Counts
