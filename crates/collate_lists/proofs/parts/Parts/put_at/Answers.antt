use Rattle.std.proofs.Common.{◌+◌, ◌<◌, All, length, drop, sym, ap, subst, arith}
use Rattle.collate_lists.proofs.Rows.{length-starts_from}
use Rattle.collate_lists.proofs.PartIndices.{raise_ready}
use Rattle.collate_lists.proofs.parts.Parts.put_at.Goals as goal

pub raise-requires-clause-within : goal.raise-requires-clause-within
raise-requires-clause-within c = omega (arith, c.requires.free.at.within, ap length c.requires.sound.starts, length-starts_from 0 c.args.self.now.lists.items)

pub raise-requires-clause-space : goal.raise-requires-clause-space
raise-requires-clause-space c =
    let next = c.args.part + 1 in
    subst (λ xs. All (λ start. start < 18446744073709551615) (drop next xs)) (sym c.requires.sound.starts)
    (raise_ready c.args.self.now.lists.items next 18446744073709551615 (omega (arith, c.requires.sound.count, c.requires.count)))
