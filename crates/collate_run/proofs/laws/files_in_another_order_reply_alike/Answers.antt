use Rattle.collate_index.specs.Catalogue.{opened_by}
use Rattle.collate_run.proofs.moved.ReplyLemmas.{opened_moved, ran_moved, replies_moved}
use Rattle.collate_run.proofs.laws.files_in_another_order_reply_alike.Goals as goal

pub returns : goal.returns
returns c = record {
  replies = λ limits file moved preferences options lines out accepted order replies.
      replies_moved (opened_by limits file preferences options) (opened_by limits moved preferences options)
      (opened_moved limits file moved preferences options accepted order) lines out replies;
  runs = λ limits file moved preferences options result reader_old reader_new writer_old writer_new accepted order ran.
      ran_moved (opened_by limits file preferences options) (opened_by limits moved preferences options)
      (opened_moved limits file moved preferences options accepted order) result reader_old reader_new writer_old writer_new ran;
}
