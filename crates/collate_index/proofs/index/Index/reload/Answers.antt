use Rattle.std.proofs.Common.{◌≡◌, ℕ, List, ap, ◌∙◌, subst}
use Rattle.std.proofs.lemmas.List.Elements.{All-same}
use Rattle.collate_lines.specs.declared.limits.Limits.{Limits}
use Rattle.collate_lines.specs.Lines.{records_of}
use Rattle.collate_lines.specs.Record.{Record}
use Rattle.collate_records.specs.Files.{FileRecords, IsAcceptedWithin}
use Rattle.collate_name_list.specs.StoredNames.{names_of, rekeyed}
use Rattle.collate_index.specs.Catalogue.{Catalogue, meaning_in, reloaded}
use Rattle.collate_index.specs.Index.{catalogue_of}
use Rattle.collate_index.specs.Keys.{IsKeyed, catalogue}
use Rattle.collate_index.specs.declared.index.Index.TheInside.{Inside}
use Rattle.collate_index.specs.Reloads.{AreKeysMade}
use Rattle.collate_index.proofs.making.IndexMadeLemmas.{as_asked}
use Rattle.collate_index.proofs.reloading.RekeyedLemmas.{names_stay}
use Rattle.collate_index.proofs.search.IndexLemmas.{kept_names}
use Rattle.collate_index.proofs.index.Index.reload.Goals as goal

pub keys_by-requires-clause-collator : goal.keys_by-requires-clause-collator
keys_by-requires-clause-collator c =
    as_asked c.in_ok-records.records.lines c.self.inside.asked c.preferences-preferences.result c.in_ok-collator.collator
    c.preferences-preferences.ensures.case_first c.preferences-preferences.ensures.numeric_ordering c.in_ok-collator.ensures

pub keys_by-requires-clause-keyed : goal.keys_by-requires-clause-keyed
keys_by-requires-clause-keyed c = c.self.invariant.keyed

pub invariant_of-self : goal.invariant_of-self
invariant_of-self c =
    kept_names c.self.inside c.self.invariant c.renew.new.names
    (All-same (IsKeyed (meaning_in (catalogue_of c.self.inside))) c.renew.new.names c.self.inside.names c.in_err-renew.ensures.unchanged c.self.invariant.keyed)

pub invariant_of-self-2 : goal.invariant_of-self-2
invariant_of-self-2 c =
    let old : Catalogue = catalogue c.self.inside.records c.self.inside.asked c.self.inside.names in
    record {
      accepted = c.keep_rules.ensures.accepted;
      collator =
          as_asked c.in_ok-records.records.lines c.self.inside.asked c.preferences-preferences.result c.in_ok-collator.collator
          c.preferences-preferences.ensures.case_first c.preferences-preferences.ensures.numeric_ordering c.in_ok-collator.ensures;
      keyed =
          All-same (IsKeyed (meaning_in (reloaded c.in_ok-records.records.lines old))) c.renew.new.names (rekeyed c.in_ok-keys.keys.items c.self.inside.names)
          c.in_ok-renew.ensures.rekeyed c.in_ok-keys.ensures.keyed;
    }

-- the limits are those that the index had
same_limits : (inside : Inside) (old : Catalogue) (limits : Limits) → catalogue_of inside ≡ old → limits ≡ inside.records.limits → limits ≡ old.limits
same_limits inside old limits is same = same ∙ ap (λ (s : Catalogue). s.limits) is

pub returns-clause-accepted : goal.returns-clause-accepted
returns-clause-accepted c =
    subst (λ (limits : Limits). IsAcceptedWithin limits c.args.bytes.now)
    (same_limits c.self.inside c.args.self.now c.limits.result c.self.view_is c.limits.ensures) c.in_ok-records.ensures.0

pub returns-clause-reloaded : goal.returns-clause-reloaded
returns-clause-reloaded c =
    let records : List Record = records_of c.args.bytes.now in
    let names : names_of c.renew.new.names ≡ names_of c.self.inside.names = ap names_of c.in_ok-renew.ensures.rekeyed ∙ names_stay c.in_ok-keys.keys.items c.self.inside.names in
    ap (λ (rs : FileRecords). record { limits = rs.limits; records = rs.lines; asked = c.self.inside.asked; arrivals = names_of c.renew.new.names }) c.in_ok-records.ensures.1
    ∙ ap (λ (limits : Limits). record { limits = limits; records = records; asked = c.self.inside.asked; arrivals = names_of c.renew.new.names }) c.limits.ensures
    ∙ ap (λ (ns : List (List ℕ)). record { limits = c.self.inside.records.limits; records = records; asked = c.self.inside.asked; arrivals = ns }) names
    ∙ ap (λ (s : Catalogue). reloaded records s) c.self.view_is

pub returns-clause-made : goal.returns-clause-made
returns-clause-made c =
    subst (λ (rs : FileRecords). AreKeysMade c.args.self.now rs.lines c.keys_by.new.made) c.in_ok-records.ensures.1
    (subst (λ (s : Catalogue). AreKeysMade s c.in_ok-records.records.lines c.keys_by.new.made) c.self.view_is c.in_ok-keys.ensures.made)
