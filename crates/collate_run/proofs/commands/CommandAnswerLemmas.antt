-- the outcomes of a reload
use Rattle.std.proofs.Common.{◌≡◌, ◌∙◌, ◌+◌, ◌<◌, ◌≤◌, ◌++◌, ℕ, Option, Some, Result, Ok, Err, List, length, take, inl, refl, sym, ap, subst, arith, append-nil, ⊎_elim, Bor}
use Rattle.std.specs.Prelude.{IfSome}
use Rattle.std.proofs.lemmas.Bool.{cases_lt}
use Rattle.std.proofs.lemmas.List.{take-append-le}
use Rattle.collate_laws.proofs.CutFileLemmas.{cut_read}
use Rattle.collate_lines.specs.Lines.{records_of}
use Rattle.collate_lines.specs.Record.{Record}
use Rattle.collate_lines.specs.declared.limits.Limits.{Limits}
use Rattle.collate_lines.specs.declared.rule.RecordsError.{RecordsError}
use Rattle.collate_lines.specs.declared.rule.RecordsError.TheVariants.{Fault}
use Rattle.collate_records.specs.Files.{FileRecords, IsReadWithin}
use Rattle.collate_index.specs.Reloads.{AreKeysMade}
use Rattle.collate_lines.specs.declared.rule.RecordFault.{RecordFault}
use Rattle.collate_index.specs.Catalogue.{Catalogue, reloaded}
use Rattle.collate_run.specs.Replies.{LineCommand, reload, Answers, AreFirst, Grants, Reloads, command_of, reload_reply}

-- the first bytes of a file are read as the file is
read-first : (limits : Limits) (bytes file : List ℕ) (result : Result FileRecords RecordsError) → AreFirst limits.bytes bytes file → IsReadWithin limits bytes result → IsReadWithin limits file result
read-first limits bytes file result first read =
    ⊎_elim
    (λ (long : limits.bytes < length bytes).
    let cut : take (limits.bytes + 1) bytes ≡ take (limits.bytes + 1) file =
    sym (take-append-le (limits.bytes + 1) bytes first.0 (omega (arith, long))) ∙ ap (take (limits.bytes + 1)) (sym first.1) in
    (cut_read limits file result).0 (subst (λ (xs : List ℕ). IsReadWithin limits xs result) cut ((cut_read limits bytes result).1 read)))
    (λ (short : length bytes ≤ limits.bytes).
    let same : bytes ≡ file = sym (append-nil bytes) ∙ ap (λ (xs : List ℕ). bytes ++ xs) (sym (first.2 short)) ∙ sym first.1 in
    subst (λ (xs : List ℕ). IsReadWithin limits xs result) same read)
    (cases_lt limits.bytes (length bytes))

-- and reloaded as the file is
reloads-first : (bytes file : List ℕ) (old new : Catalogue) (result : Result ℕ RecordFault) → AreFirst old.limits.bytes bytes file → Reloads bytes old new result → Reloads file old new result
reloads-first bytes file old new (Ok made) first h =
    let records : FileRecords = record { limits = old.limits; lines = records_of bytes } in
    let read : IsReadWithin old.limits file (Ok records) = read-first old.limits bytes file (Ok records) first (h.0, refl) in
    let lines : records_of bytes ≡ records_of file = ap (λ (rs : FileRecords). rs.lines) read.1 in
    (read.0, h.1 ∙ ap (λ (rs : List Record). reloaded rs old) lines, subst (λ (rs : List Record). AreKeysMade old rs made) lines h.2)
reloads-first bytes file old new (Err fault) first h = (read-first old.limits bytes file (Err (Fault fault)) first h.0, h.1)

-- a reload, over the record lines that were given
pub answers-reload : (line file : List ℕ) (count : ℕ) (records : Option (Bor (List ℕ))) (given : Bor (List ℕ)) (old new : Catalogue) (result : Result ℕ RecordFault)
    → reload count ≡ command_of line → records ≡ Some given → IfSome records (λ r. AreFirst old.limits.bytes r.now file) → Reloads given.now old new result → Answers line file old new (reload_reply result)
answers-reload line file count records given old new result asked is kept h =
    let first : AreFirst old.limits.bytes given.now file = subst (λ (o : Option (Bor (List ℕ))). IfSome o (λ r. AreFirst old.limits.bytes r.now file)) is kept in
    inl (subst (λ (v : LineCommand). Grants v file old new (reload_reply result)) asked (result, reloads-first given.now file old new result first h, refl))
