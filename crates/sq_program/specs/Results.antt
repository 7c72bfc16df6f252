-- What `serve` and `race` print.
use Rattle.std.specs.Prelude.{ℕ, List, [], ◌∷◌, ◌++◌, codes, decimal}
use Rattle.std.specs.Net.Text.{socket_text}
use Rattle.std.specs.declared.net.socket_addr.SocketAddr.{SocketAddr}

-- a text and a line feed
abbrev pub line_of : List ℕ → List ℕ
line_of text = text ++ 10 ∷ []

-- where connections are taken, once they are
abbrev pub listening_text : SocketAddr → List ℕ
listening_text address = codes "listening " ++ socket_text address

-- all that was done is one run, in which each message is in one place
abbrev pub verdict_text : List ℕ
verdict_text = codes "{\"Verdict\":\"yes\"}"

-- the same, of so many calls, among which so many sends gave an id
abbrev pub race_text : ℕ → ℕ → List ℕ
race_text calls sent = codes "{\"Calls\":" ++ (decimal calls ++ (codes ",\"Sent\":" ++ (decimal sent ++ codes ",\"Verdict\":\"yes\"}")))
