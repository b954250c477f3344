-- a text told part by part
use Rattle.std.proofs.Common.{◌≡◌, ℕ, ◌+◌, ◌<◌, Option, Some, None, Result, Err, List, [], ◌∷◌, ◌++◌, length, take, drop, get_or, flat_map, ap, sym, ◌∙◌, append_assoc, refl, subst}
use Rattle.std.proofs.lemmas.List.{append-nil, take_more, take-append-drop}
use Rattle.std.proofs.lemmas.Grind.{flat_map-append}
use Rattle.std.specs.Io.KnownBytes.{Appends, Keeps}
use Rattle.collate_run.specs.Sending.{Sends}
use Rattle.collate_run.specs.Served.{Tells}
use Rattle.collate_run.proofs.bytes.KnownBytesLemmas.{Appends-none, Appends-then}

module _ {X : Type 0} (bytes : X → List ℕ) (parts : List X) (i : ℕ) (d : X) (within : i < length parts) where
  front-more : flat_map bytes (take (i + 1) parts) ≡ flat_map bytes (take i parts) ++ bytes (get_or parts i d)
  front-more = ap (flat_map bytes) (take_more parts i d within) ∙ flat_map-append bytes (take i parts) (get_or parts i d ∷ []) ∙ ap (λ (xs : List ℕ). flat_map bytes (take i parts) ++ xs) (append-nil (bytes (get_or parts i d)))

  pub told-more : (a b c : Option (List ℕ)) → Appends a b (flat_map bytes (take i parts)) → Appends b c (bytes (get_or parts i d)) → Appends a c (flat_map bytes (take (i + 1) parts))
  told-more a b c h k = subst (λ (xs : List ℕ). Appends a c xs) (sym front-more) (Appends-then a b c (flat_map bytes (take i parts)) (bytes (get_or parts i d)) h k)

  pub told-front : {E : Type 0} (result : Result (Unit {0}) E) (a b c : Option (List ℕ)) → Appends a b (flat_map bytes (take i parts)) → Sends result b c (bytes (get_or parts i d)) → Tells a c (flat_map bytes parts)
  told-front result a b c h sends = record {
    told = flat_map bytes (take i parts) ++ sends.sent;
    untold = sends.unsent ++ flat_map bytes (drop (i + 1) parts);
    text_is =
        ap (flat_map bytes) (sym (take-append-drop (i + 1) parts))
        ∙ flat_map-append bytes (take (i + 1) parts) (drop (i + 1) parts)
        ∙ ap (λ (xs : List ℕ). xs ++ flat_map bytes (drop (i + 1) parts)) (front-more ∙ ap (λ (xs : List ℕ). flat_map bytes (take i parts) ++ xs) sends.bytes_are ∙ sym (append_assoc (flat_map bytes (take i parts)) sends.sent sends.unsent))
        ∙ append_assoc (flat_map bytes (take i parts) ++ sends.sent) sends.unsent (flat_map bytes (drop (i + 1) parts));
    appends = Appends-then a b c (flat_map bytes (take i parts)) sends.sent h sends.appends;
  }

  -- what was sent of the parts where one of them wasn't sent whole
  pub sent-front : {E : Type 0} (fault : E) (a b c : Option (List ℕ)) → Appends a b (flat_map bytes (take i parts)) → Sends (Err fault) b c (bytes (get_or parts i d)) → Sends (Err fault) a c (flat_map bytes parts)
  sent-front fault a b c h sends =
      let told = told-front (Err fault) a b c h sends in
      record { sent = told.told; unsent = told.untold; bytes_are = told.text_is; appends = told.appends; whole = tt }

pub told-all : (a b : Option (List ℕ)) (text : List ℕ) → Appends a b text → Tells a b text
told-all a b text h = record { told = text; untold = []; text_is = sym (append-nil text); appends = h }

pub tells-nothing : (a : Option (List ℕ)) → Tells a a []
tells-nothing a = told-all a a [] (Appends-none a)

-- what isn't touched keeps its bytes
pub keeps-same : (a : Option (List ℕ)) → Keeps a a
keeps-same None = tt
keeps-same (Some bytes) = refl
