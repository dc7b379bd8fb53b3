use Rattle.std.proofs.Common.{codes, decimal, length}
use Rattle.metrics_server.specs.Response.{metrics_response}
use Rattle.metrics_server.proofs.Joined.{four_parts}
use Rattle.metrics_server.proofs.response.push_page.Goals as goal

pub returns : goal.returns
unfolding metrics_response
returns c =
    four_parts c.extend_from_slice-3.result c.args.text.now.items c.extend_from_slice.new.self.items c.push_decimal.new.text.items c.extend_from_slice-2.new.self.items c.extend_from_slice-3.new.self.items
    (codes "HTTP/1.1 200 OK\r\nContent-Type: text/plain; version=0.0.4\r\nContent-Length: ") (decimal (length c.args.page.now)) (codes "\r\nConnection: close\r\n\r\n") c.args.page.now
    c.in_ok-extend_from_slice.ensures.items c.in_ok-push_decimal.ensures c.in_ok-extend_from_slice-2.ensures.items c.extend_from_slice-3.ensures.items
