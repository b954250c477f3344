use Rattle.collate_run.specs.Watched.{watched_inner}
use Rattle.collate_run.proofs.bytes.ServedLemmas.{serves-run}
use Rattle.collate_run.proofs.serve.serve_within.Goals as goal

pub returns : goal.returns
returns g c =
    serves-run c.args.setup.limits c.args.choice c.args.file c.in-Ok.opened.0 c.in-Ok.opened.1 c.in-Ok.ensures.opened
    c.status_of.result c.run_with_seed-ended.result
    (g.R.Read.remaining (watched_inner c.args.reader.now)) (g.R.Read.remaining (watched_inner c.run_with_seed-ended.new.reader))
    (g.W.Write.contents (watched_inner c.args.writer.now)) (g.W.Write.contents (watched_inner c.run_with_seed-ended.new.writer))
    (g.E.Write.contents c.args.errors.now) (g.E.Write.contents c.open_file.new.errors) (g.E.Write.contents c.status_of.new.errors)
    c.run_with_seed-ended.ensures.ran c.in-Ok.ensures.untold c.status_of.ensures.told c.status_of.ensures.status
