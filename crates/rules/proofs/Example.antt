-- 01's example, and the readings that 01 rejects, computed on their bytes.
use mathlib.Core.Path.{◌≡◌, refl}
use mathlib.Core.List.{[], ◌++◌}
use Rattle.text.specs.Bytes.{Bytes, bytes}
use Rattle.rules.specs.Machine.{done, refused}
use Rattle.rules.specs.Faults.{accepted, faulty}
use Rattle.rules.proofs.Computing.{answers, judged}

-- the library, with a line put in after LCLA
abbrev mulw : Bytes → Bytes
mulw more =
    bytes "         MACRO\n&N       MULW  &D,&L=3\n         LCLA  &I\n" ++ (more
    ++ bytes "&I       SETA  1\n&N       MUL   &D\n.T       AIF   (&I GE &L).X\n         NOP   &SYSNDX\n&I       SETA  &I+1\n         AGO   .T\n.X       MEND\n")

abbrev program : Bytes
program = bytes "A        MULW  R1\n         RET\n"

abbrev output : Bytes
output = bytes "A        MUL   R1\n         NOP   0001\n         NOP   0001\n         RET\n"

pub accepted-example : judged (mulw []) ≡ accepted
unfolding judged
accepted-example = refl

pub fifteen-steps : answers (mulw []) program 80 ≡ done 4 15 output
unfolding answers
fifteen-steps = refl

pub with-actr-3 : answers (mulw (bytes "         ACTR  3\n")) program 80 ≡ done 4 16 output
unfolding answers
with-actr-3 = refl

pub with-actr-2 : answers (mulw (bytes "         ACTR  2\n")) program 80 ≡ refused 9 1 5 14
unfolding answers
with-actr-2 = refl

-- "A refused library prints only `* LIBRARY REFUSED 2 LINE 7`"
pub refused-library : judged (mulw (bytes "&I       SETA  1\n         NOP\n.X2      ANOP\n         LCLA  &J\n")) ≡ faulty 2 7
unfolding judged
refused-library = refl

-- rejected: re-dividing an inner call after replacement
pub divided-once : answers (bytes " MACRO\n IN &X,&Y\n DC &X/&Y\n MEND\n MACRO\n T\n LCLC &C\n&C SETC 'A,B'\n IN &C,C\n MEND\n") (bytes " T\n") 80 ≡ done 1 7 (bytes "         DC    A,B/C\n")
unfolding answers
divided-once = refl

-- rejected: updating &SYSECT inside the macro that issues CSECT
pub section-stays : answers (bytes " MACRO\n T\nS CSECT\n DC A(&SYSECT)\n MEND\n") (bytes " T\n T\n") 80 ≡ done 4 8 (bytes "S CSECT\n         DC    A()\nS CSECT\n         DC    A(S)\n")
unfolding answers
section-stays = refl

-- rejected: giving an inner call its caller's loop counter
pub counter-own : answers (bytes " MACRO\n IN\n AGO .A\n.A AGO .B\n.B MEND\n MACRO\n T\n ACTR 1\n IN\n AGO .X\n.X MEND\n") (bytes " T\n") 80 ≡ done 0 8 []
unfolding answers
counter-own = refl

-- five levels are good, a sixth is refused at its caller's place
abbrev levels : Bytes
levels = bytes " MACRO\n T &P\n LCLA &D\n&D SETA &P-1\n AIF (&P EQ 1).E\n T &D\n.E MEND\n"

pub level-five : answers levels (bytes " T 5\n") 80 ≡ done 0 25 []
unfolding answers
level-five = refl

pub level-six : answers levels (bytes " T 6\n") 80 ≡ refused 10 1 4 21
unfolding answers
level-six = refl
