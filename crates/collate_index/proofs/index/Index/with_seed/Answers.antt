use Rattle.std.proofs.Common.{[], refl, sym, subst}
use Rattle.std.proofs.lemmas.List.Elements.{All-nil, All-same}
use Rattle.collate_laws.specs.OverRecords.{IsCollatorOf}
use Rattle.collate_index.specs.Catalogue.{asked_of, meaning_in, preferences_of}
use Rattle.collate_index.specs.Keys.{IsKeyed}
use Rattle.collate_index.specs.declared.asked.Asked.{Asked}
use Rattle.collate_index.proofs.making.IndexMadeLemmas.{as_asked}
use Rattle.collate_index.proofs.index.Index.with_seed.Goals as goal

pub invariant_of-result : goal.invariant_of-result
invariant_of-result c =
    let asked = asked_of c.args.options.now c.args.preferences.now in
    let meaning = meaning_in (record { limits = c.args.records.limits; records = c.args.records.lines; asked = c.new-asked.result; arrivals = [] }) in
    record {
      accepted = c.keep_rules.ensures.accepted;
      collator =
          subst (λ (a : Asked). IsCollatorOf c.args.records.lines a.options (preferences_of a) c.in_ok-collator.collator) (sym c.new-asked.ensures)
          (as_asked c.args.records.lines asked c.args.preferences.now c.in_ok-collator.collator refl refl c.in_ok-collator.ensures);
      keyed = All-same (IsKeyed meaning) c.new.result [] c.new.ensures (All-nil (IsKeyed meaning));
    }
