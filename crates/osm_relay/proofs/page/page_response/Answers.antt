use Rattle.std.proofs.Common.{◌≡◌, ◌++◌, IfOk, List, ℕ, codes, rules, subst}
use Rattle.std.specs.Prelude.{None, option_map, true}
use Rattle.osm_relay.specs.Pages.{escaped, page}
use Rattle.http_messages.specs.ResponseTexts.{HeadParts, response_text}
use Rattle.osm_relay.specs.declared.page.TheConstants.{PAGE_END, PAGE_START}
use Rattle.osm_relay.proofs.page.page_response.Goals as goal

pub returns : goal.returns
unfolding page
returns c =
    let line : c.as_slice.result.now ≡ escaped c.args.text.now = search rules in
    let head : HeadParts = record { status = c.args.status; content_type = codes "text/html; charset=utf-8"; root = None; allow = option_map (λ methods. methods.now) c.args.allow; closes = true } in
    subst (λ (t : List ℕ). IfOk c.joined_response.result (λ response. response.items ≡ response_text (record { head = head; body = PAGE_START.now ++ (t ++ PAGE_END.now) }))) line c.joined_response.ensures
