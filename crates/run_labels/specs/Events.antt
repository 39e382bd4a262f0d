-- The lines of the events that are no steps of calls.
use Rattle.std.specs.Prelude.{ℕ, List, ◌++◌, Option, Some, None, Bool, true, false, codes, decimal}
use Rattle.ckpt_types.specs.declared.identities.Who.{Who}
use Rattle.run_labels.specs.declared.labels.PullReply.{PullReply}
use Rattle.run_labels.specs.declared.labels.PullReply.TheVariants as pulls
use Rattle.run_labels.specs.declared.labels.PutReply.{PutReply}
use Rattle.run_labels.specs.declared.labels.PutReply.TheVariants as puts
use Rattle.run_labels.specs.declared.words.LineWord.{LineWord}
use Rattle.run_labels.specs.declared.words.Said.{Said}
use Rattle.ckpt_types.specs.declared.words.FirstWord.TheVariants as first
use Rattle.ckpt_types.specs.FirstWord.{first_word_text}
use Rattle.ckpt_types.specs.Spelling.{node_text, ckpt_text, call_text, who_text}
use Rattle.run_labels.specs.Words.{line_word_text, said_text}

-- whether the node failed, or was not up
abbrev pub failed_text : Bool → List ℕ
failed_text true = codes "OK"
failed_text false = codes "DOWN"

-- `n1 fail OK`
abbrev pub fail_line : ℕ → Bool → List ℕ
fail_line node failed = node_text node ++ codes " " ++ first_word_text first.Fail ++ codes " " ++ failed_text failed ++ codes "\n"

-- the incarnation in which the node came up, or that it was up
abbrev pub joined_text : Option ℕ → List ℕ
joined_text None = codes "LIVE"
joined_text (Some incarnation) = codes "OK " ++ decimal incarnation

-- `n1 join OK 2`
abbrev pub join_line : ℕ → Option ℕ → List ℕ
join_line node incarnation = node_text node ++ codes " " ++ first_word_text first.Join ++ codes " " ++ joined_text incarnation ++ codes "\n"

-- how a pull was answered
abbrev pub pulled_text : PullReply → List ℕ
pulled_text (pulls.Ok count) = codes "OK " ++ decimal count
pulled_text (pulls.Held call) = codes "HELD " ++ call_text call
pulled_text pulls.Nothing = codes "NONE"

-- `K1 pull OK 1`
abbrev pub pull_line : ℕ → PullReply → List ℕ
pull_line ckpt reply = ckpt_text ckpt ++ codes " " ++ first_word_text first.Pull ++ codes " " ++ pulled_text reply ++ codes "\n"

-- how a put was answered
abbrev pub put_text : PutReply → List ℕ
put_text (puts.Ok count) = codes "OK " ++ decimal count
put_text puts.Nothing = codes "NONE"
put_text (puts.Stale generation present) = codes "STALE " ++ decimal generation ++ codes " " ++ decimal present
put_text (puts.Old generation count) = codes "OLD " ++ decimal generation ++ codes " " ++ decimal count

-- `K1 put n1 OK 1`
abbrev pub put_line : ℕ → ℕ → PutReply → List ℕ
put_line ckpt node reply = ckpt_text ckpt ++ codes " " ++ first_word_text first.Put ++ codes " " ++ node_text node ++ codes " " ++ put_text reply ++ codes "\n"

-- `c0 write BUSY`
abbrev pub word_line : Who → LineWord → Said → List ℕ
word_line who line said = who_text who ++ codes " " ++ line_word_text line ++ codes " " ++ said_text said ++ codes "\n"
