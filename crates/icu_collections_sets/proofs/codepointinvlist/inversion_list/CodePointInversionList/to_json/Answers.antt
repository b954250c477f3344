use Rattle.std.proofs.Common.{◌≡◌, refl, sym, subst, arith, rules}
use Rattle.std.proofs.lemmas.Grind.{common_steps}
use Rattle.serde_json.specs.Data.{Data}
use Rattle.serde_json.specs.View.{view}
use Rattle.icu_collections_sets.specs.Json.{json_of, IsJson}
use Rattle.icu_collections_sets.proofs.texts.JsonLemmas.{AreRanges-Rises, IsJson-json_of}
use Rattle.icu_collections_sets.proofs.codepointinvlist.inversion_list.CodePointInversionList.to_json.Goals as goal

pub loop-range-init : goal.loop-range-init
loop-range-init c =
    let made = c.iter_ranges-range-items.ensures in
    record {
      written = rw (c.new-items.ensures.items, c.into_iter-range-iterator.ensures.into_iter_gives, made.ranges) refl;
      ranges = rw (c.into_iter-range-iterator.ensures.into_iter_gives, made.ranges) (AreRanges-Rises 0 c.args.self.now made.valid.rises);
    }

pub returns-clause-stands : goal.returns-clause-stands
returns-clause-stands c =
    let set = c.args.self.now in
    let written : view c.from-2.result ≡ json_of set = first_of (search rules, grind (arith, common_steps)) in
    subst (λ (v : Data). IsJson v set) (sym written) (IsJson-json_of set c.iter_ranges-range-items.ensures.valid)
