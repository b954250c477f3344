-- the code's commands and replies, as the commands of lines and as bytes
use Rattle.std.specs.Prelude.{◌≡◌, ℕ, Ok, Err, List, ◌⊎◌, codes}
use Rattle.collate_run.specs.Replies.{LineCommand, add, remove, find, between, key, list, reload, unknown, reload_reply}
use Rattle.collate_run.specs.declared.replies.Command.{Command}
use Rattle.collate_run.specs.declared.replies.Command.TheVariants.{Add, Remove, Find, Between, Key, ListAll, Reload, Unknown}
use Rattle.collate_run.specs.declared.replies.Reply.{Reply}
use Rattle.collate_run.specs.declared.replies.Reply.TheVariants.{Added, Duplicate, Removed, Absent, Lines, Reloaded, Refused, Bad, Memory}

-- what the code's command asks for
abbrev pub line_command : Command → LineCommand
line_command (Add name) = add name.now
line_command (Remove name) = remove name.now
line_command (Find name) = find name.now
line_command (Between first last) = between first.now last.now
line_command (Key name) = key name.now
line_command ListAll = list
line_command (Reload count) = reload count
line_command Unknown = unknown

-- a reply's bytes
abbrev pub reply_text : Reply → List ℕ
reply_text Added = codes "added\n"
reply_text Duplicate = codes "duplicate\n"
reply_text Removed = codes "removed\n"
reply_text Absent = codes "absent\n"
reply_text (Lines text) = text.items
reply_text (Reloaded made) = reload_reply (Ok made)
reply_text (Refused fault) = reload_reply (Err fault)
reply_text Bad = codes "bad\n"
reply_text Memory = codes "memory\n"

-- the reply is this text, or memory was refused
abbrev pub IsReply : List ℕ → Reply → Type 0
IsReply text reply = (reply_text reply ≡ text) ⊎ (reply ≡ Memory)
