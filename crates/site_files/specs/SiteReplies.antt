-- The octets of a site's replies (RFC 9112, sections 4 and 5), and which requests are the site's.
use Rattle.std.specs.Prelude.{ℕ, Bool, List, ◌++◌, Option, codes, bytes_eq, decimal, length}
use Rattle.std.specs.Prelude.{option_map, if◌then◌else◌}
use Rattle.http_requests.specs.declared.head.Head.{Head}
use Rattle.site_files.specs.MediaTypes.{media_type}
use Rattle.site_files.specs.Sites.{SiteFile, requested_file}

-- a field of a head, with its end
abbrev pub field_line : List ℕ → List ℕ → List ℕ
field_line name value = name ++ codes ": " ++ value ++ codes "\r\n"

-- the Connection field (RFC 9110, section 7.6.1)
abbrev pub connection_line : Bool → List ℕ
connection_line close =
    field_line (codes "Connection") (if close then codes "close" else codes "keep-alive")

-- ---- a file

-- What a page of the site may load and do (Content Security Policy): its own scripts, styles,
-- pictures and requests, and nothing of another site; and no other page may frame it.
abbrev pub policy : List ℕ
policy =
    codes "default-src 'none'; script-src 'self'; style-src 'self'; img-src 'self' data:; "
    ++ codes "connect-src 'self'; manifest-src 'self'; worker-src 'self'; base-uri 'none'; "
    ++ codes "form-action 'none'; frame-ancestors 'none'; require-trusted-types-for 'script'; "
    ++ codes "trusted-types desk"

-- the fields that each file is sent with, and the empty line that ends the head: the policy; that
-- the media type is the one that is said; that a browser asks whether a kept file is still the same
abbrev pub last_lines : List ℕ
last_lines =
    field_line (codes "Content-Security-Policy") policy
    ++ field_line (codes "X-Content-Type-Options") (codes "nosniff")
    ++ field_line (codes "Cache-Control") (codes "no-cache")
    ++ codes "\r\n"

-- the head of the reply with a file of this media type and this length
unfoldable pub file_head : List ℕ → ℕ → Bool → List ℕ
file_head media octets close =
    codes "HTTP/1.1 200 OK\r\n"
    ++ field_line (codes "Content-Type") media
    ++ field_line (codes "Content-Length") (decimal octets)
    ++ connection_line close
    ++ last_lines

-- the whole reply with the file
abbrev pub found_reply : SiteFile → Bool → List ℕ
found_reply file close = file_head (media_type file.0) (length file.1) close ++ file.1

-- ---- another method than GET

-- the fault of the API for a wrong method (RFC 9110, section 15.5.6)
abbrev pub bad_method_body : List ℕ
bad_method_body = codes "{\"fault\":\"bad-method\",\"number\":28}"

-- the whole reply; Allow has the one method that a file has
unfoldable pub bad_method_reply : Bool → List ℕ
bad_method_reply close =
    codes "HTTP/1.1 405 Method Not Allowed\r\n"
    ++ field_line (codes "Content-Type") (codes "application/json")
    ++ field_line (codes "Allow") (codes "GET")
    ++ field_line (codes "Content-Length") (codes "34")
    ++ connection_line close
    ++ codes "\r\n"
    ++ bad_method_body

-- ---- requests

-- the reply to a request for the file with this method
abbrev pub file_reply : List ℕ → SiteFile → Bool → List ℕ
file_reply method file close =
    if bytes_eq method (codes "GET") then found_reply file close else bad_method_reply close

-- The reply to a request for one of these files. A request for none of them isn't the site's: it has
-- None.
abbrev pub site_reply : List SiteFile → Head → Option (List ℕ)
site_reply files head =
    option_map (λ file. file_reply head.method file head.close) (requested_file files head.target)
