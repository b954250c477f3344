use Rattle.std.proofs.Common.{◌≡◌, ℕ, List, subst}
use Rattle.std.specs.Prelude.{IfOk}
use Rattle.icu_normalizer_core.specs.Decoding.{utf8_chars}
use Rattle.icu_normalizer_core.proofs.decoded.DecodedLemmas.{utf8_scalars}
use Rattle.collate_index.proofs.index.Index.make_key.Goals as goal

pub returns : goal.returns
returns c =
    subst (λ (bytes : List ℕ). IfOk c.make.result (λ key. key ≡ bytes))
    (c.collator.ensures.keys (utf8_chars c.args.name.now) (utf8_scalars c.args.name.now)) c.make.ensures.key
