use Rattle.value_arithmetic.proofs.Rules.{bare-is, bare-one, bare-two}
use Rattle.value_arithmetic.proofs.is_bare.Goals as goal

pub returns-in-Bare : goal.returns-in-Bare
returns-in-Bare c = bare-is c.in-Bare.is

pub returns-in-One : goal.returns-in-One
returns-in-One c = bare-one c.in-One.is

pub returns-in-Two : goal.returns-in-Two
returns-in-Two c = bare-two c.in-Two.is
