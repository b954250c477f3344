-- bytes sent in parts
use Rattle.std.proofs.Common.{◌≡◌, ℕ, ◌-◌, List, [], ◌++◌, length, take, drop, Option, None, Some, Result, Ok, Err, refl, sym, ap, ◌∙◌, subst, append_assoc}
use Rattle.std.proofs.lemmas.List.{append-nil, take_rest, take-append-drop}
use Rattle.std.specs.Prelude.{OnOk}
use Rattle.std.specs.Io.KnownBytes.{Appends}
use Rattle.collate_merge.specs.Sending.{Sends}

pub Appends-none : (a : Option (List ℕ)) → Appends a a []
Appends-none None = tt
Appends-none (Some xs) = sym (append-nil xs)

pub Appends-then : (a b c : Option (List ℕ)) (xs ys : List ℕ) → Appends a b xs → Appends b c ys → Appends a c (xs ++ ys)
Appends-then None b c xs ys h k = tt
Appends-then (Some old) None c xs ys h k = absurd h
Appends-then (Some old) (Some bs) None xs ys h k = absurd k
Appends-then (Some old) (Some bs) (Some cs) xs ys h k = k ∙ ap (λ (zs : List ℕ). zs ++ ys) h ∙ append_assoc old xs ys

pub more-sent : (bytes sent rest : List ℕ) (n : ℕ) → bytes ≡ sent ++ rest → bytes ≡ (sent ++ take n rest) ++ take (length rest - n) (drop n rest)
more-sent bytes sent rest n e =
    e ∙ ap (λ (xs : List ℕ). sent ++ xs) (sym (take-append-drop n rest) ∙ ap (λ (xs : List ℕ). take n rest ++ xs) (sym (take_rest rest n)))
    ∙ sym (append_assoc sent (take n rest) (take (length rest - n) (drop n rest)))

-- what was sent without a fault was sent whole
pub sent-all : {T E : Type 0} (result : Result T E) (t : T) (a b : Option (List ℕ)) (bytes : List ℕ) → result ≡ Ok t → Sends result a b bytes → Appends a b bytes
sent-all {T} {E} result t a b bytes is h =
    let sends : Sends {E = E} (Ok t) a b bytes = subst (λ (r : Result T E). Sends r a b bytes) is h in
    subst (Appends a b) (sym (sends.bytes_are ∙ ap (λ (xs : List ℕ). sends.sent ++ xs) sends.whole ∙ append-nil sends.sent)) sends.appends

-- bytes after others that were sent
pub sends-then : {T E : Type 0} (result : Result T E) (a b c : Option (List ℕ)) (xs ys : List ℕ) → Appends a b xs → Sends result b c ys → Sends result a c (xs ++ ys)
sends-then result a b c xs ys first second = record {
  sent = xs ++ second.sent;
  unsent = second.unsent;
  bytes_are = ap (λ (zs : List ℕ). xs ++ zs) second.bytes_are ∙ sym (append_assoc xs second.sent second.unsent);
  appends = Appends-then a b c xs second.sent first second.appends;
  whole = second.whole;
}

-- bytes after others that weren't sent whole
pub sends-cut : {T E S F : Type 0} (result : Result T E) (fault : F) (a b : Option (List ℕ)) (xs ys : List ℕ) → Sends result a b xs → Sends {T = S} (Err fault) a b (xs ++ ys)
sends-cut result fault a b xs ys first = record {
  sent = first.sent;
  unsent = first.unsent ++ ys;
  bytes_are = ap (λ (zs : List ℕ). zs ++ ys) first.bytes_are ∙ append_assoc first.sent first.unsent ys;
  appends = first.appends;
  whole = tt;
}

-- nothing to send
pub sends-nothing : {T E : Type 0} (result : Result T E) (a : Option (List ℕ)) → Sends result a a []
sends-nothing (Ok t) a = record { sent = []; unsent = []; bytes_are = refl; appends = Appends-none a; whole = refl }
sends-nothing (Err e) a = record { sent = []; unsent = []; bytes_are = refl; appends = Appends-none a; whole = tt }

-- nothing was sent of some bytes
pub sends-none : {T E : Type 0} (fault : E) (a : Option (List ℕ)) (bytes : List ℕ) → Sends {T = T} (Err fault) a a bytes
sends-none fault a bytes = record { sent = []; unsent = bytes; bytes_are = refl; appends = Appends-none a; whole = tt }

-- all was sent, whatever came of it
pub sends-all : {T E : Type 0} (result : Result T E) (a b : Option (List ℕ)) (bytes : List ℕ) → Appends a b bytes → Sends result a b bytes
sends-all (Ok t) a b bytes h = record { sent = bytes; unsent = []; bytes_are = sym (append-nil bytes); appends = h; whole = refl }
sends-all (Err e) a b bytes h = record { sent = bytes; unsent = []; bytes_are = sym (append-nil bytes); appends = h; whole = tt }

-- what holds anyway holds without a fault
pub always : {T E P : Type 0} (result : Result T E) → P → OnOk result P
always (Ok t) h = h
always (Err e) h = tt
