use Rattle.std.proofs.Common.{◌≡◌, ℕ, [], ◌∷◌, rules, subst, sym}
use Rattle.icu_collator_core.specs.FlatNotes.{IsFlatUpTo, MayFollow}
use Rattle.icu_collator_core.specs.ReadSources.{canonical_by}
use Rattle.icu_collator_core.proofs.readings.FlatNoteLemmas.{two_flat}
use Rattle.icu_collator_core.proofs.notes.flat_notes.note_of_two.Goals as goal

pub returns : goal.returns
returns c = λ d is numeric.
    let source = c.args.sound.now in
    let class = (canonical_by source).class in
    let lead = c.highest_before.result in
    let one = c.in-Some.element in
    let other = c.in-Some-flat_element.next in
    let first : c.class-class.result ≡ class c.args.first = search rules in
    let second : c.class-trail.result ≡ class c.args.second = search rules in
    let follows = c.may_follow.ensures c.if-not-may_follow.false in
    let order : MayFollow (class c.args.first) (class c.args.second) =
    subst (λ (k : ℕ). MayFollow k (class c.args.second)) first (subst (λ (k : ℕ). MayFollow c.class-class.result k) second follows) in
    subst (λ (k : ℕ). IsFlatUpTo source numeric d (one ∷ other ∷ []) lead k) (sym second)
    (two_flat source d numeric c.args.first lead (c.highest_before.ensures numeric) c.args.second one other is (c.in-Some.ensures numeric) (c.in-Some-flat_element.ensures numeric) order)
