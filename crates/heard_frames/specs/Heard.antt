-- What the host makes of a frame that it hears: its class, the reply that goes out at once, its operation and the proxied request, if any.
use Rattle.std.specs.Prelude.{◌≡◌, ℕ, Bool, List}
use Rattle.nb_base.specs.declared.key.Key.{Key}
use Rattle.nb_base.specs.declared.host.Host.{Host}
use Rattle.heard_frames.specs.declared.content.Content.{Content}
use Rattle.heard_frames.specs.declared.heard.Heard.{Heard}
use Rattle.heard_frames.specs.Content.{Holds, class_of}
use Rattle.heard_frames.specs.Fields.{content_of}
use Rattle.heard_frames.specs.Answers.{request_in, reply_to, proxied}
use Rattle.heard_frames.specs.Learning.{op_in}

-- of what a frame holds
abbrev pub made_of : Host → (Key → Bool) → Content → Heard
made_of host is_proxied content = record {
  class = class_of content;
  reply = reply_to host (request_in content);
  op = op_in host content;
  request = proxied host is_proxied (request_in content);
}

-- what the host makes of these bytes, where `is_proxied` tells the keys that it answers for
pub record IsHeard (host : Host) (is_proxied : Key → Bool) (bytes : List ℕ) (heard : Heard) : Type 0 where
  pub content : Content
  pub holds : Holds host.mac bytes content
  pub made : heard ≡ made_of host is_proxied content

-- the same as a function of the bytes, for those who fold over frames; `hear` shows that it is exactly what `IsHeard` says
unfoldable pub heard_of : Host → (Key → Bool) → List ℕ → Heard
heard_of host is_proxied bytes = made_of host is_proxied (content_of host.mac bytes)
