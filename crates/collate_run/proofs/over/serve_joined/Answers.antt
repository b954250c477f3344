use Rattle.std.proofs.Common.{Ok, subst}
use Rattle.collate_records.specs.Files.{IsReadWithin}
use Rattle.collate_run.proofs.over.serve_joined.Goals as goal

pub returns : goal.returns
returns g c = record {
  read = Ok c.in-Ok.records;
  read_is = subst (λ bytes. IsReadWithin c.args.setup.limits bytes (Ok c.in-Ok.records)) c.bytes.ensures c.in-Ok.ensures;
  served = record {
    result = c.run_buffered_with_seed-ended.result;
    ran = c.run_buffered_with_seed-ended.ensures.ran;
    status_is = c.status_of.ensures.status;
    tells = c.status_of.ensures.told;
  };
}
