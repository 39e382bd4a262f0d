-- Which word may stand in place of a call.
use Rattle.std.specs.Prelude.{◌≡◌, ◌≢◌, ℕ, ◌<◌, None, true, false}
use Rattle.ckpt_types.specs.declared.identities.ActorName.{ActorName}
use Rattle.ckpt_types.specs.declared.identities.ActorName.TheVariants.{Client, Node}
use Rattle.ckpt_types.specs.declared.identities.CallId.{CallId}
use Rattle.ckpt_types.specs.declared.identities.Who.{Who}
use Rattle.ckpt_types.specs.declared.identities.Who.TheVariants.{Actor}
use Rattle.ckpt_types.specs.declared.identities.Who.TheVariants as whos
use Rattle.ckpt_types.specs.Limits.{nodes_max}
use Rattle.ckpt_types.specs.declared.words.OpWord.TheVariants as opwords
use Rattle.run_labels.specs.declared.words.LineWord.{LineWord}
use Rattle.run_labels.specs.declared.words.LineWord.TheVariants as linewords
use Rattle.run_labels.specs.declared.words.Said.{Said}
use Rattle.run_labels.specs.declared.words.Said.TheVariants.{Busy, Idle, Live, Down}
use Rattle.cluster_record.specs.RecordState.{is_live_client, is_up}
use Rattle.ckpt_machine.specs.Machine.{Machine}

-- the word answers a line of this actor
abbrev pub IsSaid : Machine → ActorName → LineWord → Said → Type 0
IsSaid m a (linewords.Op w) Busy = m.in_hand (Actor a) ≢ None
IsSaid m (Client c) (linewords.Op opwords.Client) Live = (m.in_hand (Actor (Client c)) ≡ None) × (is_live_client c m.cluster ≡ true)
IsSaid m (Client c) (linewords.Op opwords.Client) Down =
    (m.in_hand (Actor (Client c)) ≡ None) × (is_live_client c m.cluster ≡ false) × ((r : ℕ) × (r < nodes_max) × (is_up r m.cluster ≡ false))
IsSaid m (Node r) (linewords.Op opwords.Copy) Down = (m.in_hand (Actor (Node r)) ≡ None) × (r < nodes_max) × (is_up r m.cluster ≡ false)
IsSaid m a (linewords.Op w) said = ⊥
IsSaid m a linewords.Step Idle = m.in_hand (Actor a) ≡ None
IsSaid m a linewords.Step said = ⊥
IsSaid m a linewords.Finish Idle = m.in_hand (Actor a) ≡ None
IsSaid m a linewords.Finish said = ⊥

-- the word answers a step of an asynchronous operation: none of this call is unfinished
abbrev pub IsSaidOfOperation : Machine → CallId → LineWord → Said → Type 0
IsSaidOfOperation m call (linewords.Op w) said = ⊥
IsSaidOfOperation m call line Idle = m.in_hand (whos.Call call) ≡ None
IsSaidOfOperation m call line said = ⊥

-- the word answers a line of an actor, or a step of an asynchronous operation
abbrev pub IsWord : Machine → Who → LineWord → Said → Type 0
IsWord m (Actor a) word said = IsSaid m a word said
IsWord m (whos.Call call) word said = IsSaidOfOperation m call word said
