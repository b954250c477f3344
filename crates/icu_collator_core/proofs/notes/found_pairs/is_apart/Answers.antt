use Rattle.std.proofs.Common.{◌≡◌, ◌∷◌, [], None, Option, ℕ, ap, rules, true}
use Rattle.std.specs.Option.{is_some}
use Rattle.std.proofs.lemmas.Bool.{and_right}
use Rattle.icu_collator_core.specs.ReadSources.{canonical_by, weights_by}
use Rattle.icu_collator_core.proofs.notes.found_pairs.is_apart.Goals as goal

pub returns : goal.returns
returns c = λ told.
    let source = c.args.sound.now in
    let first = c.args.first in
    let second = c.args.second in
    let boundary : c.is_boundary.result ≡ true = search rules in
    let own : (canonical_by source).full second ≡ second ∷ [] = search rules in
    let none : (weights_by None source).digit first ≡ None = search rules in
    let nothing : (weights_by None source).digit second ≡ None = search rules in
    record {
      second_own = own;
      together = record {
        uncounted = (none, (nothing, tt));
        begins = λ numeric. c.is_boundary.ensures boundary numeric
            (and_right (is_some numeric) (is_some ((weights_by None source).digit first)) (ap (λ (o : Option ℕ). is_some o) none));
        told = λ numeric. c.is_told_alone.ensures told numeric;
      };
    }
