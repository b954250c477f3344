-- a line, read byte by byte, and a request, read line by line
use Rattle.std.proofs.Common.{◌≡◌, Bool, true, false, ◌||◌, ℕ, ◌+◌, ◌≤◌, Option, None, Some, Result, Ok, Err, List, [], ◌∷◌, ◌++◌, length, refl, subst, sym, ap, ◌∙◌, Bor}
use Rattle.std.proofs.lemmas.List.{append-nil}
use Rattle.std.specs.Prelude.{IfSome, option_map}
use Rattle.std.specs.Io.KnownBytes.{Appends, Consumes, IsAtEnd, Keeps}
use Rattle.collate_index.specs.Catalogue.{Catalogue}
use Rattle.collate_run.specs.Reading.{GivesByte, ReadsLine, ReadsRequest, SpellsLine, SpellsRequest, spelled}
use Rattle.collate_run.specs.Replies.{Answers, AreFirst, behind}
use Rattle.collate_run.specs.Runs.{input_limit, line_limit}
use Rattle.collate_run.specs.Sending.{Sends}
use Rattle.collate_run.specs.declared.run.Line.{Line}
use Rattle.collate_run.specs.declared.run.Request.{Request}
use Rattle.collate_run.proofs.bytes.KnownBytesLemmas.{Appends-kept}

pub byte-consumed : (old new : Option (List ℕ)) (given : Option ℕ) (byte : ℕ) → given ≡ Some byte → GivesByte old new (Ok given) → Consumes old new (byte ∷ [])
byte-consumed old new given byte e h = subst (λ (o : Option ℕ). GivesByte old new (Ok o)) e h

pub no-line : (given : Option Line) (left : Option (List ℕ)) (before after : ℕ) (bytes : List ℕ) → given ≡ None → ReadsLine (Ok given) left before after bytes → (bytes ≡ []) × IsAtEnd left
no-line given left before after bytes e h = subst (λ (o : Option Line). ReadsLine (Ok o) left before after bytes) e h

pub some-line : (given : Option Line) (line : Line) (left : Option (List ℕ)) (before after : ℕ) (bytes : List ℕ) → given ≡ Some line → ReadsLine (Ok given) left before after bytes → SpellsLine line left bytes × (after ≡ before + length bytes) × (after ≤ input_limit) × (length line.bytes.items ≤ line_limit)
some-line given line left before after bytes e h = subst (λ (o : Option Line). ReadsLine (Ok o) left before after bytes) e h

pub no-request : (given : Option Request) (left : Option (List ℕ)) (before after : ℕ) (bytes : List ℕ) → given ≡ None → ReadsRequest (Ok given) left before after bytes → (bytes ≡ []) × IsAtEnd left
no-request given left before after bytes e h = subst (λ (o : Option Request). ReadsRequest (Ok o) left before after bytes) e h

some-request : (given : Option Request) (request : Request) (left : Option (List ℕ)) (before after : ℕ) (bytes : List ℕ) → given ≡ Some request → ReadsRequest (Ok given) left before after bytes → SpellsRequest request (behind request.line.items) left before after bytes
some-request given request left before after bytes e h = subst (λ (o : Option Request). ReadsRequest (Ok o) left before after bytes) e h

pub sent-all : {E : Type 0} (value : Unit {0}) (old new : Option (List ℕ)) (bytes : List ℕ) → Sends {E = E} (Ok value) old new bytes → Appends old new bytes
sent-all value old new bytes sends =
    let e : bytes ≡ sends.sent = sends.bytes_are ∙ ap (λ (xs : List ℕ). sends.sent ++ xs) sends.whole ∙ append-nil sends.sent in
    subst (λ (xs : List ℕ). Appends old new xs) (sym e) sends.appends

-- all was sent, and nothing came after it
pub sent-kept : {E F : Type 0} (value : Unit {0}) (result : Result (Unit {0}) F) (a b c : Option (List ℕ)) (bytes : List ℕ) → Sends {E = E} (Ok value) a b bytes → Keeps b c → Sends result a c bytes
sent-kept value (Ok done) a b c bytes sends keeps = record {
  sent = bytes;
  unsent = [];
  bytes_are = sym (append-nil bytes);
  appends = Appends-kept a b c bytes (sent-all value a b bytes sends) keeps;
  whole = refl;
}
sent-kept value (Err fault) a b c bytes sends keeps = record {
  sent = bytes;
  unsent = [];
  bytes_are = sym (append-nil bytes);
  appends = Appends-kept a b c bytes (sent-all value a b bytes sends) keeps;
  whole = tt;
}

pub unmarked : (new old : Bool) → new ≡ (old || false) → new ≡ old
unmarked new true h = h
unmarked new false h = h

pub unfailed : (new old : Bool) → new ≡ (old || false) → old ≡ false → new ≡ false
unfailed new true h e = h ∙ e
unfailed new false h e = h

if-mapped : {V : Type 0} (IsKept : List ℕ → Type 0) (view : V → List ℕ) (records : Option V) → IfSome records (λ kept. IsKept (view kept)) → IfSome (option_map view records) IsKept
if-mapped IsKept view None h = h
if-mapped IsKept view (Some kept) h = h

if-given : (IsKept : List ℕ → Type 0) (given : Option (Bor (List ℕ))) → IfSome (option_map (λ lent. lent.now) given) IsKept → IfSome given (λ lent. IsKept lent.now)
if-given IsKept None h = h
if-given IsKept (Some lent) h = h

-- the record lines that are lent are those that were kept
lent-records : {V : Type 0} (IsKept : List ℕ → Type 0) (view : V → List ℕ) (records : Option V) (given : Option (Bor (List ℕ)))
    → option_map (λ lent. lent.now) given ≡ option_map view records → IfSome records (λ kept. IsKept (view kept)) → IfSome given (λ lent. IsKept lent.now)
lent-records IsKept view records given e h = if-given IsKept given (subst (λ (o : Option (List ℕ)). IfSome o IsKept) (sym e) (if-mapped IsKept view records h))

-- a request has the limit with which it was read
limit-kept : (given : Option Request) (asked : Request) (limit : ℕ) → given ≡ Some asked → IfSome given (λ request. request.limit ≡ limit) → asked.limit ≡ limit
limit-kept given asked limit e h = subst (λ (o : Option Request). IfSome o (λ request. request.limit ≡ limit)) e h

pub limit-of : (given : Option Request) (limit most : ℕ) → limit ≡ most → IfSome given (λ request. request.limit ≡ limit) → IfSome given (λ request. request.limit ≡ most)
limit-of given limit most e h = subst (λ (n : ℕ). IfSome given (λ request. request.limit ≡ n)) e h

-- a request that was read, and the answer to it: line and lent are what the answer was made of
pub record Answered (asked : Request) (left : Option (List ℕ)) (before after : ℕ) (bytes : List ℕ) (old new : Catalogue) (text : List ℕ) : Type 0 where
  pub spells : SpellsRequest asked (behind asked.line.items) left before after bytes
  pub answers : Answers asked.line.items (spelled spells.records) old new text

pub answered : (given : Option Request) (asked : Request) (left : Option (List ℕ)) (before after : ℕ) (bytes : List ℕ) (line : List ℕ) (lent : Option (Bor (List ℕ))) (old new : Catalogue) (text : List ℕ)
    → given ≡ Some asked → ReadsRequest (Ok given) left before after bytes → line ≡ asked.line.items
    → option_map (λ records. records.now) lent ≡ option_map (λ records. records.items) asked.records
    → IfSome given (λ request. request.limit ≡ old.limits.bytes)
    → ((file : List ℕ) → IfSome lent (λ records. AreFirst old.limits.bytes records.now file) → Answers line file old new text)
    → Answered asked left before after bytes old new text
answered given asked left before after bytes line lent old new text given_is read line_is lent_is limited answers =
    let spells = some-request given asked left before after bytes given_is read in
    let limit : asked.limit ≡ old.limits.bytes = limit-kept given asked old.limits.bytes given_is limited in
    record {
      spells = spells;
      answers = subst (λ (xs : List ℕ). Answers xs (spelled spells.records) old new text) line_is
          (answers (spelled spells.records) (lent-records (λ bytes. AreFirst old.limits.bytes bytes (spelled spells.records)) (λ records. records.items) asked.records lent lent_is
          (subst (λ (n : ℕ). IfSome asked.records (λ records. AreFirst n records.items (spelled spells.records))) limit spells.kept)));
    }
