-- lists with the lines of operands, one more at a time
use Rattle.std.proofs.Common.{◌≡◌, ℕ, ◌+◌, ◌<◌, List, [], ◌∷◌, ◌++◌, Bor, length, map, ap, ◌∙◌, sym, subst, append_assoc, append-nil, flat_map, get_or, take}
use Rattle.std.specs.List.{AllZip}
use Rattle.std.proofs.lemmas.Grind.{flat_map-append}
use Rattle.std.proofs.lemmas.List.{map-append, take_more}
use Rattle.std.proofs.lemmas.Slice.Zip.{all_zipped_more}
use Rattle.collate_sort.specs.Listing.{Listing}
use Rattle.collate_sort.specs.Orders.{Line}
use Rattle.sort_names.specs.Texts.{listed, with_texts}
use Rattle.sort_names.specs.declared.request.Shape.{Shape}

pub no_texts : (shape : Shape) (list : Listing) → list ≡ with_texts shape list []
no_texts shape list = ap (λ (ls : List Line). record list { lines = ls }) (sym (append-nil list.lines))

with_more : (shape : Shape) (start between after : Listing) (texts : List (List ℕ)) (text : List ℕ)
    → between ≡ with_texts shape start texts → after ≡ record between { lines = between.lines ++ listed shape text }
    → after ≡ with_texts shape start (texts ++ text ∷ [])
with_more shape start between after texts text before added =
    let f = listed shape in
    let whole : flat_map f (texts ++ text ∷ []) ≡ flat_map f texts ++ listed shape text =
    flat_map-append f texts (text ∷ []) ∙ ap (λ (ls : List Line). flat_map f texts ++ ls) (append-nil (listed shape text)) in
    added
    ∙ ap (λ (l : Listing). record l { lines = l.lines ++ listed shape text }) before
    ∙ ap (λ (ls : List Line). record start { lines = ls })
    (append_assoc start.lines (flat_map f texts) (listed shape text) ∙ ap (λ (ls : List Line). start.lines ++ ls) (sym whole))

-- the paths of operands
abbrev pub paths_of : List (Bor (List ℕ)) → List (List ℕ)
paths_of xs = map (λ (path : Bor (List ℕ)). path.now) xs

-- the first so many operands hold texts whose lines a list has got
abbrev pub Got : (List ℕ → List ℕ → Type 0) → List (Bor (List ℕ)) → ℕ → Shape → Listing → Listing → Type 0
Got Holds xs n shape start list = (texts : List (List ℕ)) × AllZip Holds (paths_of (take n xs)) texts × (list ≡ with_texts shape start texts)

pub got_none : (Holds : List ℕ → List ℕ → Type 0) (xs : List (Bor (List ℕ))) (shape : Shape) (list : Listing) → Got Holds xs 0 shape list list
got_none Holds xs shape list = ([], tt, no_texts shape list)

pub got_more : (Holds : List ℕ → List ℕ → Type 0) (xs : List (Bor (List ℕ))) (n : ℕ) (d : Bor (List ℕ)) (shape : Shape) (start between after : Listing)
    → n < length xs → Got Holds xs n shape start between
    → (text : List ℕ) × Holds (get_or xs n d).now text × (after ≡ record between { lines = between.lines ++ listed shape text })
    → Got Holds xs (n + 1) shape start after
got_more Holds xs n d shape start between after there before one =
    let more : paths_of (take n xs) ++ (get_or xs n d).now ∷ [] ≡ paths_of (take (n + 1) xs) =
    sym (map-append (λ (y : Bor (List ℕ)). y.now) (take n xs) (get_or xs n d ∷ [])) ∙ sym (ap paths_of (take_more xs n d there)) in (
      before.0 ++ one.0 ∷ [],
      subst (λ (ps : List (List ℕ)). AllZip Holds ps (before.0 ++ one.0 ∷ [])) more
          (all_zipped_more Holds (paths_of (take n xs)) before.0 (get_or xs n d).now one.0 before.1 one.1),
      with_more shape start between after before.0 one.0 before.2 one.2,
    )
