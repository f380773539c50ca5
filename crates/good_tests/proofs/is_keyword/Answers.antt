use Rattle.good_tests.proofs.Keywords.{keyword-is}
use Rattle.good_tests.proofs.is_keyword.Goals as goal

pub returns : goal.returns
returns c = keyword-is c.args.name.now c.args.default.now c.is_keyword_name-named.ensures c.is_keyword_default-valued.ensures
