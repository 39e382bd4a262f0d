-- What a request is about.
use Rattle.std.specs.Prelude.{ℕ}
use Rattle.node_msgs.specs.declared.requests.Request.{Request}
use Rattle.node_msgs.specs.declared.requests.Request.TheVariants as requests

-- the checkpoint whose replica the request is about
abbrev pub ckpt_of : Request → ℕ
ckpt_of (requests.Reserve k) = k
ckpt_of (requests.Stage call k t) = k
ckpt_of (requests.Claim call k owner) = k
ckpt_of (requests.Commit call k) = k
ckpt_of (requests.Withdraw call k) = k
ckpt_of (requests.Apply call k) = k
ckpt_of (requests.Mark call k) = k
ckpt_of (requests.Element call k) = k
ckpt_of (requests.Unmark call k) = k
ckpt_of (requests.Read k) = k
ckpt_of (requests.Status k) = k
ckpt_of (requests.Iterate call k choice) = k
ckpt_of (requests.Next call k) = k
ckpt_of (requests.Pull call k) = k
ckpt_of (requests.Install call k) = k
