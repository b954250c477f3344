use Rattle.std.proofs.Common.{◌≡◌, arith, refl, length, map, string_bytes, subst}
use Rattle.std.proofs.lemmas.List.{length-map}
use Rattle.icu_collections_sets.specs.StringList.{AreStringsUpTo}
use Rattle.icu_collections_sets.proofs.texts.StringListLemmas.{AreStringsUpTo-none, AreStringsUpTo-more}
use Rattle.icu_collections_sets.proofs.codepointinvliststringlist.first_offence.Goals as goal

pub returns-in-Some : goal.returns-in-Some
returns-in-Some c = (omega arith, c.loop-index.invariant, c.in-Some.ensures)

pub loop-index-init : goal.loop-index-init
loop-index-init c = AreStringsUpTo-none _

pub loop-index-preserved : goal.loop-index-preserved
loop-index-preserved c = AreStringsUpTo-more _ c.loop-index.index _ refl c.loop-index.invariant c.in_default.ensures

pub returns : goal.returns
returns c =
    let texts = map string_bytes c.args.strings.now in
    let end : c.loop-index.index ≡ length texts = omega (arith, length-map c.args.strings.now string_bytes) in
    subst (AreStringsUpTo texts) end c.loop-index.invariant
