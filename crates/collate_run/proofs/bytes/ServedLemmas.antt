-- what is served when a run has ended
use Rattle.std.proofs.Common.{◌≡◌, ℕ, Option, Result, Ok, List, subst, Bor}
use Rattle.collate_choice.specs.declared.Choice.{Choice}
use Rattle.collate_index.specs.Catalogue.{opened}
use Rattle.collate_lines.specs.declared.limits.Limits.{Limits}
use Rattle.collate_records.specs.Files.{FileRecords}
use Rattle.collate_run.specs.Runs.{Ran}
use Rattle.collate_run.specs.Served.{OpensFile, ServesWithin, Tells, run_status, run_text}
use Rattle.collate_run.specs.declared.run.RunFault.{RunFault}
use Rattle.collate_run.specs.declared.serve.FileFault.{FileFault}

pub serves-run : (limits : Limits) (choice : Option (Bor Choice)) (file : Result (Bor (List ℕ)) FileFault) (given : Bor Choice) (records : FileRecords)
    → OpensFile limits choice file given records
    → (status : ℕ) (result : Result (Unit {0}) RunFault) (r0 r1 w0 w1 e0 e1 e2 : Option (List ℕ))
    → Ran (opened records given.now.prefs given.now.options) result r0 r1 w0 w1
    → e1 ≡ e0 → Tells e1 e2 (run_text result) → status ≡ run_status result
    → ServesWithin limits status r0 r1 w0 w1 e0 e2 choice file
serves-run limits choice file given records opens status result r0 r1 w0 w1 e0 e1 e2 ran untold told status_is = rw (opens.choice_is, opens.file_is) (record {
  read = Ok records;
  read_is = opens.read_is;
  served = record {
    result = result;
    ran = ran;
    status_is = status_is;
    tells = subst (λ (e : Option (List ℕ)). Tells e e2 (run_text result)) untold told;
  };
})
