pub mod SpanSteps
