use Rattle.std.proofs.Common.{◌≡◌, ◌∙◌, ◌<◌, subst, arith}
use Rattle.std.specs.Int.{w64, from_be_bytes}
use Rattle.std.proofs.lemmas.List.{get_or_default}
use Rattle.collate_lists.proofs.SlotFrontLemmas.{read_front}
use Rattle.collate_lists.proofs.fronts.Front.new.Goals as goal

pub returns : goal.returns
returns c =
    let bytes = c.args.bytes.now in
    let same : c.from_be_bytes-value.result ≡ from_be_bytes w64 bytes =
    omega (arith, c.from_be_bytes-value.ensures, c.byte_at.ensures, c.byte_at-2.ensures, c.byte_at-3.ensures, c.byte_at-4.ensures, c.byte_at-5.ensures, c.byte_at-6.ensures, c.byte_at-7.ensures, c.byte_at-8.ensures) in
    record {
      value = same ∙ read_front bytes;
      are_bytes = λ i d l. subst (λ b. b < 256) (get_or_default bytes i 0 d l) (c.type_inv.bytes i).fits;
    }
