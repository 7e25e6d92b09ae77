-- A member that is put among others, where its value is there.
use Rattle.std.specs.Prelude.{ℕ, List, Option, Some, None}
use Rattle.serde_json.specs.Data.{Data, Members, put}

abbrev pub put_there : List ℕ → Option Data → Members → Members
put_there name None ms = ms
put_there name (Some d) ms = put name d ms
