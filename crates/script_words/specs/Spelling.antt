-- The one spelling of each word.
use Rattle.std.specs.Prelude.{ℕ, List, ◌++◌, codes, cond, decimal}
use Rattle.ckpt_types.specs.declared.calls.CallbackSet.{CallbackSet}
use Rattle.ckpt_types.specs.declared.update.NewId.{NewId}
use Rattle.ckpt_types.specs.declared.update.NewId.TheVariants as new_ids
use Rattle.ckpt_types.specs.Spelling.{client_text, node_text, ckpt_text, time_text, bytes_text, version_text, who_text}
use Rattle.script_words.specs.Words.{Class, a_client, a_node, a_place, an_iteration, a_ckpt, a_number, a_time, a_moment, some_bytes, an_id, a_new_id, a_version, the_callbacks, a_who, Meaning}

-- the bytes of an identifier, or `gen` where the service is to make one
abbrev pub new_id_text : NewId → List ℕ
new_id_text (new_ids.Given id) = bytes_text id
new_id_text new_ids.Generated = codes "gen"

-- one word for the callbacks that are registered: `none`, `open`, `sync` or `both`
abbrev pub callbacks_text : CallbackSet → List ℕ
callbacks_text set = cond set.opens (cond set.syncs (codes "both") (codes "open")) (cond set.syncs (codes "sync") (codes "none"))

-- THE WORD of a class that says this
abbrev pub spell : (c : Class) → Meaning c → List ℕ
spell a_client n = client_text n
spell a_node n = node_text n
spell a_place n = codes "h" ++ decimal n
spell an_iteration n = codes "i" ++ decimal n
spell a_ckpt n = ckpt_text n
spell (a_number low high) n = decimal n
spell a_time t = time_text t
spell a_moment t = time_text t
spell some_bytes bytes = bytes_text bytes
spell an_id bytes = bytes_text bytes
spell a_new_id id = new_id_text id
spell a_version v = version_text v
spell the_callbacks set = callbacks_text set
spell a_who who = who_text who
