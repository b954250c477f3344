use Rattle.icu_normalizer_core.specs.CanonicalMeaning.{lists_of}
use Rattle.icu_normalizer_core.proofs.faults.ToldLemmas.{key_behind, tells_further, tells_listed, tells_told}
use Rattle.icu_normalizer_core.proofs.canonical.check.told.tell_next.Goals as goal

pub returns-then-is_listed-clause-below : goal.returns-then-is_listed-clause-below
returns-then-is_listed-clause-below c =
    let yes = c.if-is_listed.true in
    rw c.in_ok-push.ensures.items
    (tells_listed (lists_of c.args.tables.now) c.args.told.now.items c.args.reached.code c.args.reached.index c.requires.below (c.is_listed.ensures.inside yes) (c.is_listed.ensures.key yes))

pub returns-then-passed-code-clause-below : goal.returns-then-passed-code-clause-below
returns-then-passed-code-clause-below c =
    let no = c.if-is_listed.false in
    rw c.in_ok-push-2.ensures.items
    (tells_told (lists_of c.args.tables.now) c.args.told.now.items c.args.reached.code c.args.reached.index c.requires.below (c.is_listed.ensures.other no))

pub returns-clause-below : goal.returns-clause-below
returns-clause-below c =
    let lists = lists_of c.args.tables.now in
    let no = c.if-is_listed.false in
    tells_further lists c.args.told.now.items c.args.reached.code c.args.reached.index c.untold_end-passed.result c.requires.below
    c.untold_end-passed.ensures.from c.untold_end-passed.ensures.untold
    (key_behind lists c.args.told.now.items c.args.reached.code c.args.reached.index c.next_key.result c.untold_end-passed.result c.requires.below
    (c.is_listed.ensures.other no) c.next_key.ensures.key c.untold_end-passed.ensures.to)
