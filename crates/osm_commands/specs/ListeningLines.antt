-- What a server says when it begins.
-- Source: this project.
use Rattle.std.specs.Prelude.{ℕ, List, ◌++◌, codes}
use Rattle.std.specs.Fmt.{decimal}
use Rattle.std.specs.Net.Text.{socket_text}
use Rattle.std.specs.declared.net.socket_addr.SocketAddr.{SocketAddr}
use Rattle.osm_commands.specs.RootLines.{digest_line}

-- where it listens, over how many objects, and their root
abbrev pub listening_text : SocketAddr → (count : ℕ) → (root : List ℕ) → List ℕ
listening_text address count root =
    codes "osm_mirror listens on " ++ (socket_text address
    ++ (codes ", over " ++ (decimal count
    ++ (codes " objects, root " ++ digest_line root))))

-- where it listens, and the root of the pack that it serves: how many objects that has isn't known before a query asks
abbrev pub pack_listening_text : SocketAddr → (root : List ℕ) → List ℕ
pack_listening_text address root =
    codes "osm_mirror listens on " ++ (socket_text address ++ (codes ", over a pack, root " ++ digest_line root))
