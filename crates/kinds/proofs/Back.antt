-- The rules' words and the code's say the same: each goes to the other and back. Assumes nothing.
use mathlib.Core.Path.{◌≡◌, refl}
use Rattle.rules.specs.Statement.{Set as Of, set_a, set_b, set_c}
use Rattle.rules.specs.Grammar.{Kind as Meant, parameter, symbol, syslist, sysndx, sysect, unknown}
use Rattle.kinds.specs.Kinds.{set_of, set_for, kind_of, kind_for}

pub set-back : (s : Of) → set_of (set_for s) ≡ s
set-back set_a = refl
set-back set_b = refl
set-back set_c = refl

pub kind-back : (k : Meant) → kind_of (kind_for k) ≡ k
kind-back parameter = refl
kind-back (symbol set_a) = refl
kind-back (symbol set_b) = refl
kind-back (symbol set_c) = refl
kind-back syslist = refl
kind-back sysndx = refl
kind-back sysect = refl
kind-back unknown = refl
