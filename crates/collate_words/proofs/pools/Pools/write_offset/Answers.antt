use Rattle.std.proofs.Common.{length, ap, arith}
use Rattle.icu_collator_core.specs.Pools.{Pools}
use Rattle.collate_words.proofs.owned.OwnWordLemmas.{offset_own}
use Rattle.collate_words.proofs.pools.Pools.write_offset.Goals as goal

pub returns-clause-says : goal.returns-clause-says
returns-clause-says c =
    offset_own _ c.self.inside.ces.items c.args.bits c.naming.result
    (omega (arith, ap (λ (pools : Pools). length pools.ces) c.self.view_is)) c.in_ok-push.ensures.items (omega arith)
