-- Verbs and first words, numbered in the order in which they are declared.
use Rattle.std.specs.Prelude.{ℕ}
use Rattle.ckpt_types.specs.declared.words.OpWord.{OpWord}
use Rattle.ckpt_types.specs.declared.words.OpWord.TheVariants as words
use Rattle.node_msgs.specs.declared.steps.Verb.{Verb}
use Rattle.node_msgs.specs.declared.steps.Verb.TheVariants as verbs

-- of the verbs
abbrev pub number_of_verb : Verb → ℕ
number_of_verb verbs.Enter = 0
number_of_verb verbs.Leave = 1
number_of_verb verbs.Open = 2
number_of_verb verbs.Create = 3
number_of_verb verbs.Reserve = 4
number_of_verb verbs.Finish = 5
number_of_verb verbs.Undo = 6
number_of_verb verbs.Close = 7
number_of_verb verbs.Unlink = 8
number_of_verb verbs.Retain = 9
number_of_verb verbs.Read = 10
number_of_verb verbs.Status = 11
number_of_verb verbs.Iter = 12
number_of_verb verbs.Next = 13
number_of_verb verbs.Stage = 14
number_of_verb verbs.Commit = 15
number_of_verb verbs.Claim = 16
number_of_verb verbs.Withdraw = 17
number_of_verb verbs.Apply = 18
number_of_verb verbs.Mark = 19
number_of_verb verbs.Element = 20
number_of_verb verbs.Unmark = 21
number_of_verb verbs.Pull = 22
number_of_verb verbs.Install = 23
number_of_verb verbs.Hold = 24
number_of_verb verbs.Activate = 25
number_of_verb verbs.Complete = 26
number_of_verb verbs.Look = 27

-- of the first words of call lines
abbrev pub number_of_op_word : OpWord → ℕ
number_of_op_word words.Client = 0
number_of_op_word words.Finalize = 1
number_of_op_word words.Open = 2
number_of_op_word words.OpenAsync = 3
number_of_op_word words.Close = 4
number_of_op_word words.Unlink = 5
number_of_op_word words.Retain = 6
number_of_op_word words.Active = 7
number_of_op_word words.Status = 8
number_of_op_word words.Create = 9
number_of_op_word words.Delete = 10
number_of_op_word words.Expire = 11
number_of_op_word words.Iter = 12
number_of_op_word words.Next = 13
number_of_op_word words.EndIter = 14
number_of_op_word words.Write = 15
number_of_op_word words.Over = 16
number_of_op_word words.Read = 17
number_of_op_word words.Sync = 18
number_of_op_word words.SyncAsync = 19
number_of_op_word words.Dispatch = 20
number_of_op_word words.Copy = 21
