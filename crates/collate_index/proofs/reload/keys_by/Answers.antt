use Rattle.std.proofs.Common.{◌≡◌, ℕ, List, [], ◌∷◌, ◌++◌, Bor, Bool, true, Option, None, Some, drop, length, take, refl, arith, sym, ap, ◌∙◌, subst}
use Rattle.std.specs.Bool.{OnFalse, OnTrue}
use Rattle.std.specs.Prelude.{if◌then◌else◌}
use Rattle.std.specs.Iterator.{YieldsFirstBy}
use Rattle.std.specs.List.{All}
use Rattle.std.proofs.lemmas.List.{length-drop, length-map, take_all}
use Rattle.std.proofs.lemmas.List.Elements.{All-same}
use Rattle.icu_normalizer_core.specs.Decoding.{utf8_chars}
use Rattle.icu_normalizer_core.proofs.decoded.DecodedLemmas.{utf8_scalars}
use Rattle.icu_collator.specs.CollatorAnswers.{key_by}
use Rattle.collate_laws.specs.Unchanged.{ReachesUnchanged}
use Rattle.collate_name_list.specs.Slots.{lent_name}
use Rattle.collate_name_list.specs.StoredNames.{StoredName, names_of, rekeyed, with_key}
use Rattle.collate_index.specs.Catalogue.{Catalogue, meaning_in, reloaded}
use Rattle.collate_records.specs.Differences.{TwoFiles}
use Rattle.collate_index.specs.Keys.{IsKeyed, catalogue, key_of_name}
use Rattle.collate_index.specs.Reloads.{IsTouched}
use Rattle.collate_index.proofs.making.LentLemmas.{lent_keys}
use Rattle.collate_index.proofs.reloading.RekeyedLemmas.{kept_more, none_made, rekeyed_more, with_due}
use Rattle.collate_index.proofs.reloading.ReloadLemmas.{AreSoFar, all_made, none_yet, one_more, still_fewer}
use Rattle.collate_index.proofs.reload.keys_by.Goals as goal

-- the next name, and no more names
first_of : (r : Option (Bor (List ℕ) × Bor (List ℕ))) (lent : Bor (List ℕ) × Bor (List ℕ)) (left later : List StoredName) → r ≡ Some lent
    → YieldsFirstBy lent_name (λ (names : List StoredName). names) left r later → left ≡ lent_name lent ∷ later
first_of r lent left later is gives = subst (λ (o : Option (Bor (List ℕ) × Bor (List ℕ))). YieldsFirstBy lent_name (λ (names : List StoredName). names) left o later) is gives

none_of : (r : Option (Bor (List ℕ) × Bor (List ℕ))) (left later : List StoredName) → r ≡ None
    → YieldsFirstBy lent_name (λ (names : List StoredName). names) left r later → left ≡ []
none_of r left later is gives = (subst (λ (o : Option (Bor (List ℕ) × Bor (List ℕ))). YieldsFirstBy lent_name (λ (names : List StoredName). names) left o later) is gives).0

pub loop-name-init : goal.loop-name-init
loop-name-init c =
    let old : Catalogue = catalogue c.args.before.now c.args.asked.now c.args.names.now in
    let keys = c.in_ok-keys.keys.items in
    let all = c.args.names.now in
    let none : keys ≡ [] = c.in_ok-keys.ensures.items in
    let left : c.into_iter-name-iterator.result ≡ all = c.into_iter-name-iterator.ensures.into_iter_gives ∙ c.arrived-name-items.ensures in
    record {
      so_far =
          none_yet old c.args.records.now.lines (rekeyed keys (take (length keys) all)) c.into_iter-name-iterator.result c.args.made.now
          (ap (λ (ks : List (Option (List ℕ))). rekeyed ks (take (length ks) all)) none) c.requires.none (ap names_of left)
          (All-same (IsKeyed (meaning_in old)) c.into_iter-name-iterator.result all left c.requires.keyed);
      left = left ∙ sym (ap (λ (ks : List (Option (List ℕ))). drop (length ks) all) none);
      upto = omega (arith, ap length none);
      kept = λ nothing. let P : List (Option (List ℕ)) → Type 0 = λ ks. rekeyed ks (take (length ks) all) ≡ take (length ks) all in subst P (sym none) refl;
      changes = c.in_ok-changes.ensures;
    }

pub renewed-requires : goal.renewed-requires
renewed-requires c =
    let old : Catalogue = catalogue c.args.before.now c.args.asked.now c.args.names.now in
    omega (
      arith,
      still_fewer old c.args.records.now.lines (rekeyed c.loop-name.keys.items (take (length c.loop-name.keys.items) c.args.names.now)) c.loop-name.name-iterator c.next.new.self
          (record { key = c.in-Some.own.now; name = c.in-Some.name.now }) c.loop-name.made c.loop-name.invariant.so_far (first_of c.next.result (c.in-Some.name, c.in-Some.own) c.loop-name.name-iterator c.next.new.self c.in-Some.is c.next.ensures.steps),
      c.len.ensures,
      length-map c.args.names.now (λ (s : StoredName). s.name),
    )

pub loop-name-preserved : goal.loop-name-preserved
loop-name-preserved c =
    let old : Catalogue = catalogue c.args.before.now c.args.asked.now c.args.names.now in
    let new = c.args.records.now.lines in
    let all = c.args.names.now in
    let keys = c.loop-name.keys.items in
    let later = c.next.new.self in
    let stored : StoredName = record { key = c.in-Some.own.now; name = c.in-Some.name.now } in
    let text : List ℕ = utf8_chars c.in-Some.name.now in
    let due : Bool = c.in_ok-is_due.is_due in
    let made : List ℕ = key_of_name (meaning_in (reloaded new old)) c.in-Some.name.now in
    let wrote : key_by c.as_borrowed-lent.result text ≡ made =
    lent_keys (reloaded new old) c.args.collator.now c.keep_rules-2.ensures.accepted c.requires.collator
    c.as_borrowed-lent.result c.as_borrowed-lent.ensures.source c.as_borrowed-lent.ensures.options text (utf8_scalars c.in-Some.name.now) in
    let first : c.loop-name.name-iterator ≡ stored ∷ later = first_of c.next.result (c.in-Some.name, c.in-Some.own) c.loop-name.name-iterator later c.in-Some.is c.next.ensures.steps in
    let dropped : drop (length keys) all ≡ stored ∷ later = sym c.loop-name.invariant.left ∙ first in
    let pushed : c.push.new.self.items ≡ keys ++ c.in_ok-key.key ∷ [] = c.in_ok-push.ensures.items in
    let more = rekeyed_more keys c.in_ok-key.key all later stored dropped in
    let value : with_key stored c.in_ok-key.key ≡ record { key = if due then made else stored.key; name = stored.name } =
    ap (with_key stored) (c.in_ok-key.ensures.key ∙ ap (λ (k : List ℕ). if due then Some k else None) wrote) ∙ with_due due made stored in
    let so_far = rekeyed keys (take (length keys) all) in
    record {
      so_far =
          subst (λ (names : List StoredName). AreSoFar old new names later c.renewed.new.made)
          (sym (ap (λ (ks : List (Option (List ℕ))). rekeyed ks (take (length ks) all)) pushed ∙ more.0 ∙ ap (λ (s : StoredName). so_far ++ s ∷ []) value))
          (one_more old new c.keep_rules.ensures.accepted c.keep_rules-2.ensures.accepted
          so_far later stored (if due then made else stored.key) due c.settings_equal-is_set_alike.result c.loop-name.name-iterator c.loop-name.made c.renewed.new.made
          c.loop-name.invariant.so_far first c.settings_equal-is_set_alike.ensures
          (subst (λ (files : TwoFiles). OnTrue due (c.settings_equal-is_set_alike.result ≡ true → IsTouched files.before files.after c.in-Some.name.now)) c.loop-name.invariant.changes c.in_ok-is_due.ensures.due)
          (subst (λ (files : TwoFiles). OnFalse due ((c.settings_equal-is_set_alike.result ≡ true) × ReachesUnchanged files.before files.after text)) c.loop-name.invariant.changes c.in_ok-is_due.ensures.other)
          refl c.in_ok-key.ensures.made);
      left = sym (ap (λ (ks : List (Option (List ℕ))). drop (length ks) all) pushed ∙ more.1);
      upto = omega (arith, ap length pushed, ap length dropped, length-drop (length keys) all, c.loop-name.invariant.upto);
      kept = λ nothing.
          let here = none_made due c.in_ok-key.key (key_by c.as_borrowed-lent.result text) stored c.loop-name.made c.renewed.new.made c.in_ok-key.ensures.key c.in_ok-key.ensures.made nothing in
          let P : List (Option (List ℕ)) → Type 0 = λ ks. rekeyed ks (take (length ks) all) ≡ take (length ks) all in
          subst P (sym pushed) (kept_more keys c.in_ok-key.key all later stored dropped here.1 (c.loop-name.invariant.kept here.0));
      changes = c.is_due.ensures.same ∙ c.loop-name.invariant.changes;
    }

pub returns-clause-count : goal.returns-clause-count
returns-clause-count c =
    let none : c.loop-name.name-iterator ≡ [] = none_of c.next.result c.loop-name.name-iterator c.next.new.self c.in-None.is c.next.ensures.steps in
    let ended : drop (length c.loop-name.keys.items) c.args.names.now ≡ [] = sym c.loop-name.invariant.left ∙ none in
    omega (arith, ap length ended, length-drop (length c.loop-name.keys.items) c.args.names.now, c.loop-name.invariant.upto)

pub returns-clause-keyed : goal.returns-clause-keyed
returns-clause-keyed c =
    let old : Catalogue = catalogue c.args.before.now c.args.asked.now c.args.names.now in
    let keys = c.loop-name.keys.items in
    let none : c.loop-name.name-iterator ≡ [] = none_of c.next.result c.loop-name.name-iterator c.next.new.self c.in-None.is c.next.ensures.steps in
    let ended : drop (length keys) c.args.names.now ≡ [] = sym c.loop-name.invariant.left ∙ none in
    let all : take (length keys) c.args.names.now ≡ c.args.names.now = take_all (length keys) c.args.names.now (omega (arith, ap length ended, length-drop (length keys) c.args.names.now)) in
    subst (λ (names : List StoredName). All (IsKeyed (meaning_in (reloaded c.args.records.now.lines old))) (rekeyed keys names)) all c.loop-name.invariant.so_far.keyed

pub returns-clause-kept : goal.returns-clause-kept
returns-clause-kept c =
    let keys = c.loop-name.keys.items in
    let none : c.loop-name.name-iterator ≡ [] = none_of c.next.result c.loop-name.name-iterator c.next.new.self c.in-None.is c.next.ensures.steps in
    let ended : drop (length keys) c.args.names.now ≡ [] = sym c.loop-name.invariant.left ∙ none in
    let all : take (length keys) c.args.names.now ≡ c.args.names.now = take_all (length keys) c.args.names.now (omega (arith, ap length ended, length-drop (length keys) c.args.names.now)) in
    subst (λ (names : List StoredName). c.loop-name.made ≡ 0 → rekeyed keys names ≡ names) all c.loop-name.invariant.kept

pub returns-clause-made : goal.returns-clause-made
returns-clause-made c =
    let old : Catalogue = catalogue c.args.before.now c.args.asked.now c.args.names.now in
    all_made old c.args.records.now.lines (rekeyed c.loop-name.keys.items (take (length c.loop-name.keys.items) c.args.names.now)) c.loop-name.name-iterator c.loop-name.made c.loop-name.invariant.so_far
    (none_of c.next.result c.loop-name.name-iterator c.next.new.self c.in-None.is c.next.ensures.steps)
