use Rattle.std.proofs.Common.{◌≡◌, ◌+◌, ◌-◌, ◌<◌, length, take, sym, ap, ◌∙◌, subst, arith, Some, get_or, slice_get, slice_index}
use Rattle.std.proofs.lemmas.Option.{slice_get_within, get_or_from_slice_get}
use Rattle.collate_lists.specs.Lists.{joined, lengths}
use Rattle.collate_lists.specs.Starts.{ranks_of}
use Rattle.collate_lists.proofs.Rows.{length-starts_from, length_at, start_at, value_in}
use Rattle.collate_lists.proofs.PartIndices.{found}
use Rattle.collate_lists.proofs.parts.Parts.around.Goals as goal

pub index-list-requires : goal.index-list-requires
index-list-requires c =
    omega (arith, c.around-part.ensures.within, ap length c.requires.sound.starts, length-starts_from 0 c.args.self.now.lists.items, c.args.self.now.lists.ok.0)

pub returns-clause-shown : goal.returns-clause-shown
returns-clause-shown c = λ k placed h.
    let lists = c.args.self.now.lists.items in
    let part = c.around-part.result in
    let list = c.index-list.result.now in
    let within : part < length lists = omega (arith, c.around-part.ensures.within, ap length c.requires.sound.starts, length-starts_from 0 lists) in
    let start : length (joined (take part lists)) ≡ c.at-start.result =
    omega (arith, start_at 0 lists part within, ap (λ xs. slice_index xs part) c.requires.sound.starts, c.at-start.ensures) in
    let same : c.as_slice-slots.result.now ≡ list.items = c.as_slice-slots.ensures.value in
    let inside : k < length list.items = omega (arith, slice_get_within c.as_slice-slots.result.now k placed h, ap length same) in
    let is : placed ≡ get_or list.items k placed = sym (get_or_from_slice_get c.as_slice-slots.result.now k placed placed h) ∙ ap (λ xs. get_or xs k placed) same in
    subst (λ n. slice_get (joined lists) (n + k) ≡ Some placed) start (value_in lists part list k placed within c.index-list.ensures inside is)

pub returns-clause-before : goal.returns-clause-before
returns-clause-before c =
    let lists = c.args.self.now.lists.items in
    let starts = ranks_of c.args.self.now.starts in
    let part = c.around-part.result in
    let list = c.index-list.result.now in
    let within : part < length lists = omega (arith, c.around-part.ensures.within, ap length c.requires.sound.starts, length-starts_from 0 lists) in
    let last : c.args.rank - slice_index starts part < slice_index (lengths lists) part =
    (found lists starts c.args.self.now.count c.args.rank part c.requires.sound.starts c.requires.sound.count (omega (arith, c.requires.rank)) c.around-part.ensures).1 c.requires.rank in
    omega (arith, last, c.at-start.ensures, length_at lists part list within c.index-list.ensures, ap length c.as_slice-slots.ensures.value, c.around-part.ensures.from)
