-- What is written for a request.
use Rattle.std.specs.Prelude.{ℕ, List, [], ◌++◌, codes, decimal, length}
use Rattle.metrics_server.specs.declared.request.Asked.{Asked}
use Rattle.metrics_server.specs.declared.request.Asked.TheVariants.{Unfinished, Metrics, OtherPath, OtherMethod, Unreadable}

-- the page, behind its head
unfoldable pub metrics_response : List ℕ → List ℕ
metrics_response page =
    codes "HTTP/1.1 200 OK\r\nContent-Type: text/plain; version=0.0.4\r\nContent-Length: " ++ (decimal (length page) ++ (codes "\r\nConnection: close\r\n\r\n" ++ page))

abbrev pub not_found : List ℕ
not_found = codes "HTTP/1.1 404 Not Found\r\nContent-Length: 0\r\nConnection: close\r\n\r\n"

abbrev pub not_allowed : List ℕ
not_allowed = codes "HTTP/1.1 405 Method Not Allowed\r\nAllow: GET\r\nContent-Length: 0\r\nConnection: close\r\n\r\n"

-- nothing is answered to what is no request
abbrev pub response : Asked → List ℕ → List ℕ
response Metrics page = metrics_response page
response OtherPath page = not_found
response OtherMethod page = not_allowed
response Unfinished page = []
response Unreadable page = []
