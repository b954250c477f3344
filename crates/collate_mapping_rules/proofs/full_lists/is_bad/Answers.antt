use Rattle.std.proofs.Common.{map, arith}
use Rattle.std.proofs.lemmas.Bool.Decides.{nat_tests}
use Rattle.collate_rules.specs.CanonicalParts.{in_full}
use Rattle.collate_rules.proofs.lists.BadListLemmas.{bad_long, bad_short}
use Rattle.collate_mapping_rules.proofs.full_lists.is_bad.Goals as goal

pub returns-then-front-gt8 : goal.returns-then-front-gt8
returns-then-front-gt8 c = λ list front. (
  λ _. bad_long (map in_full c.args.parts.now.list.items) list c.args.front front c.if-front-gt8.true,
  λ _. let more = c.if-front-gt8.true in grind (arith, nat_tests),
)

pub returns-else-front-gt8 : goal.returns-else-front-gt8
returns-else-front-gt8 c = λ list front.
    bad_short (map in_full c.args.parts.now.list.items) list c.args.front c.is_mark.result front c.if-front-gt8.false c.is_mark.ensures
